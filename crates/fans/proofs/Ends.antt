-- The top and the bottom of a fan: the furthest edge of its list, and no other.
use mathlib.Core.Path.{◌≡◌, subst₂}
use mathlib.Core.Bool.{Bool, true, false}
use mathlib.Core.List.{List}
use Prim.Native.Nat.{ℕ, ◌<◌}
use native.Mathlib.Omega.{arith}
use lib.ListN.{length, get_or}
use Rattle.subdivision.specs.Sheet.{Sheet}
use Rattle.subdivision.specs.Accepted.{Rule2, Rule4}
use Rattle.theory.proofs.FanOrder.{StrictOrder, turned_about, OfFan, LowerBeside, fan_order_lem}
use Rattle.fans.specs.Fans.{goes_on, furthest}
use Rattle.fans.proofs.Under.{Reads, under_reads}
use Rattle.fans.proofs.Furthest.{Each, furthest_last}
use Rattle.fans.proofs.FanLists.{FanList}

module _ (s : Sheet) where
  -- edge f goes before edge e on the way up beside vertex v, or on the way down
  abbrev pub Onward : Bool → Bool → ℕ → ℕ → ℕ → Type 0
  Onward eastern true v e f = LowerBeside s eastern v e f
  Onward eastern false v e f = LowerBeside s eastern v f e

  -- edge e is the top or the bottom of a fan of vertex v
  abbrev pub EndOfFan : Bool → Bool → ℕ → ℕ → Type 0
  EndOfFan eastern up v e = OfFan s eastern v e × ((f : ℕ) → OfFan s eastern v f → Onward eastern up v e f → ⊥)

  module _ (rule2 : Rule2 s) (rule4 : Rule4 s) where
    onward_order : (eastern up : Bool) (v : ℕ) → StrictOrder (OfFan s eastern v) (Onward eastern up v)
    onward_order eastern true v = fan_order_lem s rule2 rule4 eastern v
    onward_order eastern false v = turned_about (fan_order_lem s rule2 rule4 eastern v)

    onward_reads : (eastern up : Bool) (v : ℕ) → Reads (OfFan s eastern v) (Onward eastern up v) (goes_on s.vertices s.edges eastern up)
    onward_reads eastern true v e f a b = under_reads s rule2 eastern v e f a b
    onward_reads eastern false v e f a b = under_reads s rule2 eastern v f e b a

    -- the furthest edge of a fan that has edges is its end
    pub furthest_is_end : (eastern up : Bool) (v : ℕ) (l : List ℕ) → FanList s eastern v l → 0 < length l
        → EndOfFan eastern up v (furthest s.vertices s.edges eastern up l)
    furthest_is_end eastern up v l k h = (last.0, λ f a. none f (k.whole f a))
      where
        last : OfFan s eastern v (furthest s.vertices s.edges eastern up l) × Each (λ e. Onward eastern up v (furthest s.vertices s.edges eastern up l) e → ⊥) l
        last = furthest_last s.vertices s.edges eastern up (OfFan s eastern v) (Onward eastern up v) (onward_order eastern up v) (onward_reads eastern up v) l h k.entries

        none : (f : ℕ) → (i : ℕ) × (i < length l) × (get_or l i 0 ≡ f) → Onward eastern up v (furthest s.vertices s.edges eastern up l) f → ⊥
        none f (i, b, e) m = last.1 i b (rw e m)

    -- a fan has one end
    pub one_end : (eastern up : Bool) (v e f : ℕ) → EndOfFan eastern up v e → EndOfFan eastern up v f → e ≡ f
    one_end eastern up v e f a b = (onward_order eastern up v).total e f a.0 b.0 (a.1 f b.0) (b.1 e a.0)

    -- what is so of the furthest edges of two fans, where both have edges, is so of the ends of the two fans
    pub ends_are_furthest : (P : ℕ → ℕ → Type 0) (eastern up eastern' up' : Bool) (v u : ℕ) (l k : List ℕ) → FanList s eastern v l → FanList s eastern' u k
        → ((0 < length l) × (0 < length k) → P (furthest s.vertices s.edges eastern up l) (furthest s.vertices s.edges eastern' up' k))
        → (e f : ℕ) → EndOfFan eastern up v e → EndOfFan eastern' up' u f → P e f
    ends_are_furthest P eastern up eastern' up' v u l k a b p e f m n = moved (p (drawn_l, drawn_k))
      where
        drawn_l : 0 < length l
        drawn_l = omega (arith, (a.whole e m.0).1)

        drawn_k : 0 < length k
        drawn_k = omega (arith, (b.whole f n.0).1)

        moved : P (furthest s.vertices s.edges eastern up l) (furthest s.vertices s.edges eastern' up' k) → P e f
        moved =
            subst₂ P (one_end eastern up v (furthest s.vertices s.edges eastern up l) e (furthest_is_end eastern up v l a drawn_l) m)
            (one_end eastern' up' u (furthest s.vertices s.edges eastern' up' k) f (furthest_is_end eastern' up' u k b drawn_k) n)
