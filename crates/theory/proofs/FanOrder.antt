-- The fan of a vertex on the half line beside it: on a sheet that keeps rules 2 and 4 its edges stand there in a strict order, no two level.
use mathlib.Core.Path.{◌≡◌, sym, ap}
use mathlib.Core.Bool.{Bool, true, false}
use Prim.Native.Nat.{ℕ, ◌<◌}
use native.Mathlib.Omega.{arith}
use Rattle.subdivision.specs.Lines.{width}
use Rattle.subdivision.specs.Sheet.{Sheet, edge_count, x_of, y_of, west_of, east_of, segment}
use Rattle.subdivision.specs.Accepted.{Lower, Level, Rule2, Rule4}
use Rattle.theory.proofs.Beside.{line_beside, near_x, near_y, OneEnd, level_conflicts}
use Rattle.theory.proofs.LineOrder.{lower_irreflexive, level_unless_lower, lower_trans, at_most_trans}

-- a strict order of the numbers in a set
pub record StrictOrder (Among : ℕ → Type 0) (Under : ℕ → ℕ → Type 0) : Type 0 where
  pub irreflexive : (e : ℕ) → Under e e → ⊥
  pub transitive : (e f g : ℕ) → Among e → Among f → Among g → Under e f → Under f g → Under e g
  pub at_most : (e f g : ℕ) → Among e → Among f → Among g → (Under f e → ⊥) → (Under g f → ⊥) → Under g e → ⊥
  pub total : (e f : ℕ) → Among e → Among f → (Under e f → ⊥) → (Under f e → ⊥) → e ≡ f

-- a strict order, turned about
pub turned_about : {Among : ℕ → Type 0} {Under : ℕ → ℕ → Type 0} → StrictOrder Among Under → StrictOrder Among (λ e f. Under f e)
turned_about o =
    record {
      irreflexive = o.irreflexive;
      transitive = λ e f g a b c l m. o.transitive g f e c b a m l;
      at_most = λ e f g a b c l m. o.at_most g f e c b a m l;
      total = λ e f a b l m. o.total e f a b m l;
    }

module _ (s : Sheet) where
  -- the end of edge e by which it belongs to an eastern or a western fan
  abbrev pub end_of : Bool → ℕ → ℕ
  end_of eastern e = elim eastern [ true ↦ west_of s e | false ↦ east_of s e ]

  -- edge e is of the eastern or western fan of vertex v
  abbrev pub OfFan : Bool → ℕ → ℕ → Type 0
  OfFan eastern v e = (e < edge_count s) × (end_of eastern e ≡ v)

  -- edge e is lower than edge f on the half line beside vertex v
  abbrev pub LowerBeside : Bool → ℕ → ℕ → ℕ → Type 0
  LowerBeside eastern v e f = Lower (line_beside eastern (x_of s v) 1) (segment s e) (segment s f)

  near_x_lem : (eastern : Bool) (v e : ℕ) → end_of eastern e ≡ v → near_x eastern (segment s e) ≡ x_of s v
  near_x_lem true v e i = ap (x_of s) i
  near_x_lem false v e i = ap (x_of s) i

  near_y_lem : (eastern : Bool) (v e : ℕ) → end_of eastern e ≡ v → near_y eastern (segment s e) ≡ y_of s v
  near_y_lem true v e i = ap (y_of s) i
  near_y_lem false v e i = ap (y_of s) i

  -- two edges of one fan have its vertex as a common end
  pub fan_one_end : Rule2 s → (eastern : Bool) (v e f : ℕ) → OfFan eastern v e → OfFan eastern v f
      → OneEnd eastern (x_of s v) (y_of s v) (segment s e) (segment s f)
  fan_one_end rule2 eastern v e f a b =
      record {
        one_runs = rule2.1.0 e a.0;
        other_runs = rule2.1.0 f b.0;
        one_x = near_x_lem eastern v e a.1;
        other_x = near_x_lem eastern v f b.1;
        one_y = near_y_lem eastern v e a.1;
        other_y = near_y_lem eastern v f b.1;
      }

  pub edge_wide : Rule2 s → (e : ℕ) → e < edge_count s → 0 < width (segment s e)
  edge_wide rule2 e h = omega (arith, rule2.1.0 e h)

  module _ (rule2 : Rule2 s) (rule4 : Rule4 s) where
    -- two edges of one fan are level beside its vertex only where they are one edge
    pub fan_unlevel : (eastern : Bool) (v e f : ℕ) → OfFan eastern v e → OfFan eastern v f
        → Level (line_beside eastern (x_of s v) 1) (segment s e) (segment s f) → e ≡ f
    fan_unlevel eastern v e f a b l = omega (arith, not_after, not_before)
      where
        not_after : ¬ (e < f)
        not_after h =
            rule4 f b.0 e h (level_conflicts eastern (x_of s v) (y_of s v) (segment s e) (segment s f) (fan_one_end rule2 eastern v e f a b) l)

        not_before : ¬ (f < e)
        not_before h =
            rule4 e a.0 f h (level_conflicts eastern (x_of s v) (y_of s v) (segment s f) (segment s e) (fan_one_end rule2 eastern v f e b a) (sym l))

    -- the edges of a fan stand in a strict order beside its vertex
    pub fan_order_lem : (eastern : Bool) (v : ℕ) → StrictOrder (OfFan eastern v) (LowerBeside eastern v)
    fan_order_lem eastern v =
        record {
          irreflexive = λ e. lower_irreflexive (line_beside eastern (x_of s v) 1) (segment s e);
          transitive = λ e f g a b c. lower_trans (line_beside eastern (x_of s v) 1) (segment s e) (segment s f) (segment s g) (edge_wide rule2 f b.0) (edge_wide rule2 g c.0);
          at_most = λ e f g a b c. at_most_trans (line_beside eastern (x_of s v) 1) (segment s e) (segment s f) (segment s g) (edge_wide rule2 f b.0);
          total = λ e f a b l m. fan_unlevel eastern v e f a b (level_unless_lower (line_beside eastern (x_of s v) 1) (segment s e) (segment s f) l m);
        }
