-- The fans of a vertex in the columns beside it: the eastern fan in the column that starts at the vertex's abscissa, the western one in the column that ends there.
use mathlib.Core.Path.{◌≡◌, sym, ap, ◌∙◌}
use mathlib.Core.Bool.{Bool, true, false}
use mathlib.Core.Logic.{◌⊎◌, inl, inr, ⊎_elim, ◌↔◌}
use Prim.Native.Nat.{ℕ, suc, ◌+◌, ◌*◌, ◌<◌, ◌≤◌}
use native.Mathlib.Decide.{dec_le}
use native.Mathlib.Omega.{arith}
use Rattle.subdivision.specs.Sheet.{Sheet, west_margin, east_margin, vertex_count, edge_count, x_of, y_of}
use Rattle.subdivision.specs.Accepted.{HasWestern, HasEastern, Highest, Lowest, NextUp, Rule2, Rule3}
use Rattle.theory.proofs.Beside.{line_beside}
use Rattle.theory.proofs.FanOrder.{end_of, OfFan, LowerBeside}
use Rattle.theory.proofs.Columns.{NextInColumn, TopThere, BottomThere}
use Rattle.theory.proofs.Crossings.{Reaches, Crosses, IsEnd, NoCrossing}
use Rattle.theory.proofs.Scale.{scaled, level}
use Rattle.theory.proofs.Scaling.{one_scale}
use Rattle.theory.proofs.Drawn.{drawing_of}
use Rattle.theory.proofs.Transects.{passing, OnTransect}

-- the abscissa of column x at which the vertices of its eastern, or of its western, fans are
abbrev pub fan_side : Bool → ℕ → ℕ
fan_side eastern x = elim eastern [ true ↦ x | false ↦ suc x ]

-- the half line beside such a vertex is that of the column
line_beside_lem : (eastern : Bool) (x z : ℕ) → z ≡ fan_side eastern x → line_beside eastern z 1 ≡ 2 * x + 1
line_beside_lem true x z i = omega arith
line_beside_lem false x z i = omega arith

module _ (s : Sheet) where
  -- an edge of a column reaches both its abscissas
  column_reaches : (eastern : Bool) (x e : ℕ) → Crosses s x e → Reaches s (fan_side eastern x) e
  column_reaches true x e c = (c.0, omega (arith, c.1))
  column_reaches false x e c = (c.0, omega (arith, c.1))

  -- an edge that passes an abscissa of a column crosses the column
  pub passing_crosses : (eastern : Bool) (x e : ℕ) → OnTransect s (fan_side eastern x) (passing e) → Crosses s x e
  passing_crosses true x e p = (p.0, omega (arith, p.1))
  passing_crosses false x e p = (p.0, omega (arith, p.1))

  -- an edge of a column passes its abscissa, unless it has an end there
  pub crossing_passes : (eastern : Bool) (x e : ℕ) → Crosses s x e → (x_of s (end_of s eastern e) ≡ fan_side eastern x → ⊥) → OnTransect s (fan_side eastern x) (passing e)
  crossing_passes true x e c n = (c.0, omega (arith, c.1, n))
  crossing_passes false x e c n = (c.0, omega (arith, c.1, n))

  -- an edge of a column that has an end on one of its abscissas is of that vertex's fan in the column
  end_of_fan : (eastern : Bool) (x v e : ℕ) → x_of s v ≡ fan_side eastern x → Crosses s x e → IsEnd s v e → OfFan s eastern v e
  end_of_fan true x v e i c (inl j) = (c.0, j)
  end_of_fan true x v e i c (inr j) = absurd (omega (arith, ap (x_of s) j, c.1))
  end_of_fan false x v e i c (inl j) = absurd (omega (arith, ap (x_of s) j, c.1))
  end_of_fan false x v e i c (inr j) = (c.0, j)

  -- edges e and f are of fans of one vertex at the abscissa z
  abbrev pub OfOneVertex : Bool → Bool → ℕ → ℕ → ℕ → Type 0
  OfOneVertex p q z e f = (v : ℕ) × (v < vertex_count s) × (x_of s v ≡ z) × (OfFan s p v e × OfFan s q v f)

  -- edges of columns beside the abscissa z that meet there are one edge, or of fans of one vertex
  pub columns_meet : NoCrossing s → (p q : Bool) (x y z e f : ℕ) → z ≡ fan_side p x → z ≡ fan_side q y → Crosses s x e → Crosses s y f
      → scaled s (2 * z) e ≡ scaled s (2 * z) f → (e ≡ f) ⊎ OfOneVertex p q z e f
  columns_meet clear p q x y z e f i j a b h =
      ⊎_elim inl (λ m. inr (m.0, m.1, m.2, (end_of_fan p x m.0 e (m.2 ∙ i) a m.3.0, end_of_fan q y m.0 f (m.2 ∙ j) b m.3.1)))
      (clear.meet z e f (rw i (column_reaches p x e a)) (rw j (column_reaches q y f b)) h)

  -- rule 3: a vertex has a fan in each column between the margins that is beside it
  pub has_fan : Rule3 s → (eastern : Bool) (x v : ℕ) → west_margin s ≤ x → x < east_margin s → v < vertex_count s → x_of s v ≡ fan_side eastern x
      → (e : ℕ) × OfFan s eastern v e
  has_fan rule3 true x v l m b i = go (dec_le (x_of s v) (west_margin s))
    where
      paired : HasEastern s v → (e : ℕ) × OfFan s true v e
      paired (e, h, j) = (e, (h, j))

      go : Dec (x_of s v ≤ west_margin s) → (e : ℕ) × OfFan s true v e
      go (yes h) = paired ((rule3 v b).1.0 (omega arith))
      go (no h) = paired ((rule3 v b).0 (omega arith)).1
  has_fan rule3 false x v l m b i = go (dec_le (east_margin s) (x_of s v))
    where
      paired : HasWestern s v → (e : ℕ) × OfFan s false v e
      paired (e, h, j) = (e, (h, j))

      go : Dec (east_margin s ≤ x_of s v) → (e : ℕ) × OfFan s false v e
      go (yes h) = paired ((rule3 v b).1.1 (omega arith))
      go (no h) = paired ((rule3 v b).0 (omega arith)).0

  module _ (rule2 : Rule2 s) where
    -- rule 2: the ends of an edge are vertices
    pub end_vertex : (eastern : Bool) (e : ℕ) → e < edge_count s → end_of s eastern e < vertex_count s
    end_vertex true e b = (rule2.0 e b).0.0
    end_vertex false e b = (rule2.0 e b).0.1

    -- the edges of a fan cross the column beside its vertex
    pub fan_crosses : (eastern : Bool) (x v e : ℕ) → x_of s v ≡ fan_side eastern x → OfFan s eastern v e → Crosses s x e
    fan_crosses true x v e i a = (a.0, omega (arith, ap (x_of s) a.1, rule2.1.0 e a.0))
    fan_crosses false x v e i a = (a.0, omega (arith, ap (x_of s) a.1, rule2.1.0 e a.0))

    -- the edges of a fan are at its vertex's height at its abscissa
    pub fan_level : (eastern : Bool) (z v e : ℕ) → x_of s v ≡ z → OfFan s eastern v e → scaled s (2 * z) e ≡ level s (y_of s v)
    fan_level true z v e i a = rw (← i, ← a.1) ((one_scale s rule2).western_end e a.0)
    fan_level false z v e i a = rw (← i, ← a.1) ((one_scale s rule2).eastern_end e a.0)

    -- the edges of a vertex's fans meet
    pub fans_meet_lem : (p q : Bool) (z v e f : ℕ) → x_of s v ≡ z → OfFan s p v e → OfFan s q v f → scaled s (2 * z) e ≡ scaled s (2 * z) f
    fans_meet_lem p q z v e f i a b = fan_level p z v e i a ∙ sym (fan_level q z v f i b)

    module _ (eastern : Bool) (x v : ℕ) (i : x_of s v ≡ fan_side eastern x) where
      -- lower beside the vertex is lower in the column
      lower_in_column : (e f : ℕ) → e < edge_count s → f < edge_count s → LowerBeside s eastern v e f ↔ (scaled s (2 * x + 1) e < scaled s (2 * x + 1) f)
      lower_in_column e f a b = rw (line_beside_lem eastern x (x_of s v) i) ((one_scale s rule2).lower_less (2 * x + 1) e f a b)

      -- neighbours of the column that are of one fan are neighbours of the fan
      pub next_of_fan : (e f : ℕ) → OfFan s eastern v e → OfFan s eastern v f → NextInColumn (drawing_of s) x e f
          → NextUp s (line_beside eastern (x_of s v) 1) (λ g. end_of s eastern g ≡ v) e f
      next_of_fan e f a b n =
          ((a.1, b.1), ((lower_in_column e f a.0 b.0).1 n.1.0, λ g c l m. n.1.1 g (fan_crosses eastern x v g i (c, l.0)) ((lower_in_column e g a.0 c).0 l.1) ((lower_in_column g f c b.0).0 m)))

      -- an edge of a fan that is the highest in the column of those that pass its vertex is the highest of the fan
      pub top_of_fan : (e : ℕ) → OfFan s eastern v e → TopThere (drawing_of s) x (scaled s (2 * fan_side eastern x)) e
          → Highest s (line_beside eastern (x_of s v) 1) (λ g. end_of s eastern g ≡ v) e
      top_of_fan e a t =
          (a.1, λ g b j l. omega (arith, (lower_in_column e g a.0 b).0 l, t.1 g (fan_crosses eastern x v g i (b, j)) (fans_meet_lem eastern eastern _ v g e i (b, j) a)))

      -- an edge of a fan that is the lowest in the column of those that pass its vertex is the lowest of the fan
      pub bottom_of_fan : (e : ℕ) → OfFan s eastern v e → BottomThere (drawing_of s) x (scaled s (2 * fan_side eastern x)) e
          → Lowest s (line_beside eastern (x_of s v) 1) (λ g. end_of s eastern g ≡ v) e
      bottom_of_fan e a t =
          (a.1, λ g b j l. omega (arith, (lower_in_column g e b a.0).0 l, t.1 g (fan_crosses eastern x v g i (b, j)) (fans_meet_lem eastern eastern _ v g e i (b, j) a)))
