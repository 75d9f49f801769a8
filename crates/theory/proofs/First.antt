-- What the library's searches give, said with `first`.
use Rattle.std.specs.Prelude.{◌≡◌, ◌≤◌, ◌<◌, Bool, true, false, ℕ, List, length, get_or, Option, Some, None, MatchOption}
use Rattle.std.specs.declared.ops.Range.{Range}
use Rattle.std.specs.Borrow.{Bor}
use denote.Param.Members.{Mut}
use Rattle.std.specs.Fn.{Called, CalledAt}
use Rattle.std.specs.List.{FoldsTo, AllWithin, HoldsAt}
use Rattle.std.proofs.Common.{arith, sym}
use Rattle.std.specs.Iterator.{YieldsThen}
use Rattle.std.proofs.iter.Yields.{nat_range_steps}
use Rattle.std.specs.Bool.{⊤}
use Rattle.std.proofs.lemmas.Iterator.{first_from_Range, IsFirst-from_position, YieldsList}
use Rattle.subdivision.specs.Lowest.{first}
use Rattle.theory.proofs.Lowest.{first_found, first_at, first_nowhere}

-- `find` over the numbers below a count
pub first_in_range : {F : Type 0} {g : Mut F (Bor ℕ × Unit {0}) Bool} (test : ℕ → Bool) (count : ℕ) (u : Range ℕ) (f : F) (r : Option ℕ)
    → (xs : List ℕ) × (j : F) × YieldsThen nat_range_steps (record { start = 0; end = count }) xs r u × FoldsTo (λ p x q. CalledAt g p x false q) f xs j × MatchOption r ⊤ (λ x. (h : F) × CalledAt g j x true h)
    → ((x : ℕ) (q : F) → CalledAt g f x true q → test x ≡ true) → ((x : ℕ) (q : F) → CalledAt g f x false q → (q ≡ f) × (test x ≡ false))
    → r ≡ first test count
first_in_range test count u f r ran pass fail =
    first_found test count r (first_from_Range (record { start = 0; end = count }) u f r (λ i. test i ≡ true) (λ i. test i ≡ false) ran pass fail)

-- `position` along a list whose entries pass a test
pub first_in_list : {S A B F : Type 0} {steps : S → Option A → S → Type 0} {v : A → B} {g : Mut F (A × Unit {0}) Bool} {s : S} (test : B → Bool) (d : B) (all : List B) (u : S) (f : F) (r : Option ℕ)
    → (xs : List A) × (o : Option A) × (j : F) × YieldsThen steps s xs o u × FoldsTo (λ p x q. Called g p (x, tt) false q) f xs j × MatchOption o (r ≡ None) (λ x. (r ≡ Some (length xs)) × ((h : F) × Called g j (x, tt) true h))
    → YieldsList steps v s all
    → ((x : A) (q : F) → Called g f (x, tt) true q → test (v x) ≡ true) → ((x : A) (q : F) → Called g f (x, tt) false q → (q ≡ f) × (test (v x) ≡ false))
    → r ≡ first (λ k. test (get_or all k d)) (length all)
first_in_list {B = B} test d all u f r ran yields pass fail = go r (IsFirst-from_position u f r (λ y. test y ≡ true) (λ y. test y ≡ false) ran yields pass fail)
  where
    go : (r : Option ℕ) → MatchOption r (AllWithin (λ y. test y ≡ false) all 0 (length all)) (λ i. (i < length all) × HoldsAt (λ y. test y ≡ true) all i × AllWithin (λ y. test y ≡ false) all 0 i)
        → r ≡ first (λ k. test (get_or all k d)) (length all)
    go None h = first_nowhere (λ k. test (get_or all k d)) (length all) (λ k l. h k d (omega arith) l)
    go (Some i) h = first_at (λ k. test (get_or all k d)) (length all) i h.0 (h.1 d) (λ k l. h.2 k d (omega arith) l)
