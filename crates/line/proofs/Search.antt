-- What `find` gives over the numbers from a place on.
use Rattle.std.specs.Prelude.{◌≡◌, ◌≤◌, ◌<◌, ◌-◌, ◌+◌, suc, Bool, true, false, ℕ, zero, List, Option, Some, None, MatchOption}
use Rattle.std.specs.declared.ops.Range.{Range}
use Rattle.std.specs.Borrow.{Bor}
use denote.Param.Members.{Mut}
use Rattle.std.specs.Fn.{CalledAt}
use Rattle.std.specs.List.{FoldsTo}
use Rattle.std.specs.Bool.{⊤}
use Rattle.std.specs.Iterator.{YieldsThen}
use Rattle.std.proofs.Common.{arith, sym}
use Rattle.std.proofs.iter.Yields.{nat_range_steps}
use Rattle.std.proofs.lemmas.Iterator.{first_from_Range}
use Rattle.subdivision.specs.Lowest.{found, lowest_from}
use Rattle.theory.proofs.Lowest.{found_below, found_past, lowest_from_first}

-- a search from a place on that none passes ends at the count
none_from : (test : ℕ → Bool) (left at : ℕ) → ((k : ℕ) → at ≤ k → k < at + left → test k ≡ false) → at + left ≤ lowest_from test left at
none_from test zero at f = omega arith
none_from test (suc left) at f =
    rw (f at (omega arith) (omega arith), lowest_from) (omega (arith, none_from test left (suc at) (λ k a b. f k (omega arith) (omega arith))))

found_from : (test : ℕ → Bool) (count at : ℕ) (r : Option ℕ)
    → MatchOption r ((k : ℕ) → at ≤ k → k < count → test k ≡ false) (λ i. (at ≤ i) × (i < count) × (test i ≡ true) × ((k : ℕ) → at ≤ k → k < i → test k ≡ false))
    → r ≡ found count (lowest_from test (count - at) at)
found_from test count at None h =
    sym (found_past count (lowest_from test (count - at) at) (omega (arith, none_from test (count - at) at (λ k a b. h k a (omega arith)))))
found_from test count at (Some i) h =
    let here : at + (i - at) ≡ i = omega (arith, h.0) in
    let same : lowest_from test (count - at) at ≡ at + (i - at) =
    lowest_from_first test count at (i - at) (omega (arith, h.0, h.1)) (λ k l. h.3 (at + k) (omega arith) (omega (arith, h.0))) (rw here h.2) in
    rw (same, here) (sym (found_below count i h.1))

-- `find` over the numbers from a place on and below a count
pub found_in_range : {F : Type 0} {g : Mut F (Bor ℕ × Unit {0}) Bool} (test : ℕ → Bool) (count at : ℕ) (u : Range ℕ) (f : F) (r : Option ℕ)
    → (xs : List ℕ) × (j : F) × YieldsThen nat_range_steps (record { start = at; end = count }) xs r u × FoldsTo (λ p x q. CalledAt g p x false q) f xs j × MatchOption r ⊤ (λ x. (h : F) × CalledAt g j x true h)
    → ((x : ℕ) (q : F) → CalledAt g f x true q → test x ≡ true) → ((x : ℕ) (q : F) → CalledAt g f x false q → (q ≡ f) × (test x ≡ false))
    → r ≡ found count (lowest_from test (count - at) at)
found_in_range test count at u f r ran pass fail =
    found_from test count at r (first_from_Range (record { start = at; end = count }) u f r (λ i. test i ≡ true) (λ i. test i ≡ false) ran pass fail)
