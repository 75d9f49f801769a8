-- Every byte of the part is a digit, or one of them is none.
use Rattle.std.proofs.Common.{◌≡◌, sym, arith, rules, Bool, true, false, List, ℕ, ◌+◌, ◌-◌, ◌<◌, ◌≤◌, length, get_or, drop, slice_range}
use Rattle.std.proofs.lemmas.Iterator.{cases_from_all, YieldsList-from_slice}
use Rattle.std.proofs.lemmas.List.{get_or-drop, get_or-take, length-drop, length-take-le}
use Rattle.std.specs.Bool.{MatchBool}
use Rattle.std.specs.List.{AllWithin, HoldsAt}
use Rattle.subdivision.specs.Formula.{holds}
use Rattle.frames.specs.Digits.{is_digit}
use Rattle.frames.specs.Lines.{is_hexadecimal}
use Rattle.theory.proofs.Decide.{held, fails, means, denies}
use Rattle.hexadecimal.proofs.digits.hexadecimal.Goals as goal

-- a byte of the part is one of the page
part_byte : (page : List ℕ) (at end i : ℕ) → i < end - at → get_or (slice_range page at end) i 0 ≡ get_or page (at + i) 0
part_byte page at end i h = rw (get_or-take (end - at) (drop at page) i 0 h) (get_or-drop at page i 0)

-- how long the part is
part_long : (page : List ℕ) (at end : ℕ) → end ≤ length page → length (slice_range page at end) ≡ end - at
part_long page at end h = length-take-le (end - at) (drop at page) (omega (arith, length-drop at page))

-- what the look at the part says, as the formula says it
told : (page : List ℕ) (at end : ℕ) → end ≤ length page → (r : Bool)
    → MatchBool r (AllWithin (λ b. true ≡ holds (is_digit b)) (slice_range page at end) 0 (length (slice_range page at end)))
    ((k : ℕ) × (k < length (slice_range page at end)) × HoldsAt (λ b. false ≡ holds (is_digit b)) (slice_range page at end) k)
    → r ≡ holds (is_hexadecimal page at end)
told page at end h true all =
    sym (held (is_hexadecimal page at end) (λ k l. means (is_digit (get_or page (at + k) 0)) (rw (part_byte page at end k l) at (sym (all k 0 (omega arith) (omega (arith, part_long page at end h)))))))
told page at end h false one =
    sym (fails (is_hexadecimal page at end) (λ m. denies (is_digit (get_or page (at + one.0) 0)) (rw (part_byte page at end one.0 (omega (arith, one.1, part_long page at end h))) at (sym (one.2 0))) (m one.0 (omega (arith, one.1, part_long page at end h)))))

pub returns : goal.returns
returns c =
    let a = c.args in
    told a.page.now a.at a.end c.requires.1 c.all.result
    (cases_from_all _ _ c.all.result (λ b. true ≡ holds (is_digit b)) (λ b. false ≡ holds (is_digit b)) c.all.ensures.ran (YieldsList-from_slice (slice_range a.page.now a.at a.end) c.iter.ensures.rest) (λ x q k. search rules) (λ x q k. search rules))
