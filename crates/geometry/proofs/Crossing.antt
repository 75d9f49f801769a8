-- The order of two edges at the ends of their overlap, from side tests of their ends, and rule 4 from that order.
use mathlib.Core.Path.{◌≡◌, refl, sym, ap, ◌∙◌}
use mathlib.Core.Bool.{Bool, true, false, not}
use Prim.Native.Nat.{ℕ, ◌*◌, ◌≤◌, ◌<◌}
use native.Mathlib.Decide.{dec_le}
use native.Mathlib.Nat.{le_of_lt, ne_of_lt, ne_of_gt}
use native.Mathlib.Omega.{arith}
use borrow.Author.Tests.{lt-ltb, le-ltb, eq-eqb, ne_eqb}
use lib.Dec.{ltb, eqb}
use Rattle.subdivision.specs.declared.Segment.{Segment}
use Rattle.subdivision.specs.declared.Side.{Side}
use Rattle.subdivision.specs.declared.Side.TheVariants.{Below, On, Above}
use Rattle.subdivision.specs.Formula.{holds}
use Rattle.subdivision.specs.Lines.{width, height, point_part, edge_part, side_of, side_at, conflict_on}
use Rattle.theory.proofs.Heights.{side_of_end}
use Rattle.theory.proofs.Sides.{side_below, side_on, side_above, by_side}
use Rattle.geometry.specs.Crossing.{order_on, turned, broken}

turned_side : (p q : ℕ) → turned (side_of p q) ≡ side_of q p
turned_side p q =
    by_side (λ s. turned s ≡ side_of q p) p q (λ h. sym (side_above q p h)) (λ h. sym (side_on q p (sym h))) (λ h. sym (side_below q p h))

-- the end of g at x lies below, on or above h: turned, that is the order there
pub turned_side_of_end : (g h : Segment) (x y : ℕ) → 0 < width g → edge_part g x ≡ point_part g y → turned (side_at h x y) ≡ order_on (2 * x) g h
turned_side_of_end g h x y p e = ap turned (side_of_end h g x y p e) ∙ turned_side (height (2 * x) g * width h) (height (2 * x) h * width g)

-- what holds at each order in turn, with the three tests as they are there, holds of two numbers and their tests
by_order : (P : Side → Bool → Bool → Bool → Type 0) (p q : ℕ) → P Above true false false → P On false false true → P Below false true false → P (side_of q p) (ltb p q) (ltb q p) (eqb p q)
by_order P p q f g h = go (dec_le q p) (dec_le p q)
  where
    go : Dec (q ≤ p) → Dec (p ≤ q) → P (side_of q p) (ltb p q) (ltb q p) (eqb p q)
    go (no m) n = let k : p < q = omega arith in rw (side_above q p k, lt-ltb p q k, le-ltb q p (le_of_lt k), ne_eqb p q (ne_of_lt k)) f
    go (yes m) (yes n) = let k : p ≡ q = omega arith in rw (side_on q p (sym k), le-ltb p q m, le-ltb q p n, eq-eqb p q k) g
    go (yes m) (no n) = let k : q < p = omega arith in rw (side_below q p k, le-ltb p q m, lt-ltb q p k, ne_eqb p q (ne_of_gt k)) h

-- the second test is made only where the first holds
abbrev pub and_also : Bool → Bool → Bool
and_also a b = elim a [ true ↦ b | false ↦ false ]

-- the second test is made only where the first fails
abbrev or_else : Bool → Bool → Bool
or_else a b = elim a [ true ↦ true | false ↦ b ]

-- rule 4 over the tests at the two ends of an overlap
abbrev overlap_broken : Bool → Bool → Bool → Bool → Bool → Bool → Bool → Bool → Bool
overlap_broken l m e l' m' e' fork meet =
    or_else (or_else (and_also l m') (and_also m l')) (or_else (and_also e e') (or_else (and_also e (not fork)) (and_also e' (not meet))))

-- the order at the two ends of an overlap, and the common vertices, decide rule 4
pub broken_conflict : (a b : ℕ) (g h : Segment) {west east : Side} → west ≡ order_on (2 * a) g h → east ≡ order_on (2 * b) g h → broken west east (eqb g.west h.west) (eqb g.east h.east) ≡ holds (conflict_on a b g h)
broken_conflict a b g h w e = rw (w, e) (tests (height (2 * a) g * width h) (height (2 * a) h * width g) (height (2 * b) g * width h) (height (2 * b) h * width g) (eqb g.west h.west) (eqb g.east h.east))
  where
    itself : (b : Bool) → b ≡ or_else b false
    itself true = refl
    itself false = refl

    tests : (p q p' q' : ℕ) (fork meet : Bool) → broken (side_of q p) (side_of q' p') fork meet ≡ overlap_broken (ltb p q) (ltb q p) (eqb p q) (ltb p' q') (ltb q' p') (eqb p' q') fork meet
    tests p q p' q' fork meet =
        by_order (λ s l m e. broken s (side_of q' p') fork meet ≡ overlap_broken l m e (ltb p' q') (ltb q' p') (eqb p' q') fork meet) p q
        (by_order (λ s l m e. broken Above s fork meet ≡ overlap_broken true false false l m e fork meet) p' q' refl refl refl)
        (by_order (λ s l m e. broken On s fork meet ≡ overlap_broken false false true l m e fork meet) p' q' (itself (not fork)) refl (itself (not fork)))
        (by_order (λ s l m e. broken Below s fork meet ≡ overlap_broken false true false l m e fork meet) p' q' refl refl refl)
