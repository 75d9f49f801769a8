-- A choice by search: what is chosen where the lowest number that a formula is so of is below a count, and what where no number is.
use mathlib.Core.Path.{◌≡◌, refl}
use mathlib.Core.Bool.{Bool, true, false}
use Prim.Native.Nat.{ℕ, ◌<◌}
use native.Mathlib.Omega.{arith}
use lib.Dec.{ltb}
use borrow.Author.Tests.{ltb-true, ltb-false}
use Rattle.subdivision.specs.Formula.{Formula, holds, Means}
use Rattle.subdivision.specs.Lowest.{lowest}
use Rattle.theory.proofs.Decide.{means, held}
use Rattle.theory.proofs.Lowest.{lowest_passes, lowest_at_most}

-- what holds of each number that the formula is so of, and where it is so of none, holds of the choice
pub by_search : (p : ℕ → Formula) (n : ℕ) {A : Type 0} (Q : A → Type 0) (found : ℕ → A) (other : A)
    → ((k : ℕ) → k < n → Means (p k) → Q (found k)) → (((k : ℕ) → k < n → Means (p k) → ⊥) → Q other)
    → Q (elim (ltb (lowest (λ k. holds (p k)) n) n) [ true ↦ found (lowest (λ k. holds (p k)) n) | false ↦ other ])
by_search p n {A} Q found other f g = go (ltb least n) refl
  where
    test : ℕ → Bool
    test k = holds (p k)

    least : ℕ
    least = lowest test n

    go : (b : Bool) → ltb least n ≡ b → Q (elim b [ true ↦ found least | false ↦ other ])
    go true e = let h = ltb-true least n e in f least h (means (p least) (lowest_passes test n h))
    go false e = g (λ k h m. omega (arith, ltb-false least n e, lowest_at_most test n k (held (p k) m)))
