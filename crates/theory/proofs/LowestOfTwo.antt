-- The lowest number that passes one of two tests is the lower of the two lowest.
use mathlib.Core.Path.{◌≡◌}
use mathlib.Core.Bool.{Bool, true, false}
use Prim.Native.Nat.{ℕ, ◌<◌, ◌≤◌, min}
use native.Mathlib.Decide.{dec_le}
use native.Mathlib.Omega.{arith}
use Rattle.subdivision.specs.Lowest.{lowest}
use Rattle.theory.proofs.Decide.{yes_left, yes_right}
use Rattle.theory.proofs.Lowest.{IsLeast, is_lowest_lem, lowest_is}

-- what passes one of two tests
abbrev pub either_of : Bool → Bool → Bool
either_of a b = elim a [ true ↦ true | false ↦ b ]

-- the lowest number that passes one of two tests is the lower of the lowest that pass each
pub lowest_of_two : (test one other : ℕ → Bool) (n : ℕ) → ((k : ℕ) → k < n → test k ≡ either_of (one k) (other k))
    → lowest test n ≡ min (lowest one n) (lowest other n)
lowest_of_two test one other n f = is_lowest_lem (go (lowest one n) (lowest other n) (lowest_is one n) (lowest_is other n))
  where
    neither : (a b : Bool) → a ≡ false → b ≡ false → either_of a b ≡ false
    neither a b p q = rw (p, q)

    go : (p q : ℕ) → IsLeast one n p → IsLeast other n q → IsLeast test n (min p q)
    go p q a b = record { within = omega (arith, a.within); before = λ k h. before k h; passes = λ h. passes h (dec_le p q) }
      where
        before : (k : ℕ) → k < min p q → test k ≡ false
        before k h =
            rw (f k (omega (arith, a.within))) (neither (one k) (other k) (a.before k (omega arith)) (b.before k (omega arith)))

        passes : min p q < n → Dec (p ≤ q) → test (min p q) ≡ true
        passes h (yes l) =
            let e : min p q ≡ p = omega arith in
            rw e (let m : p < n = omega arith in rw (f p m) (yes_left (one p) (other p) (a.passes m)))
        passes h (no l) =
            let e : min p q ≡ q = omega arith in
            rw e (let m : q < n = omega arith in rw (f q m) (yes_right (one q) (other q) (b.passes m)))
