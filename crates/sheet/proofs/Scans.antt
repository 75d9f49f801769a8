-- A refusal's lowest item at fault, found by a scan: where there is one the judgement ends with it, and otherwise it goes on.
use Rattle.std.specs.Prelude.{◌≡◌, refl, not, List, [], ◌∷◌, ℕ, ◌<◌, Option, Some, None, Ok, Err}
use Rattle.std.proofs.Common.{sym, ap, ◌∙◌}
use Rattle.std.proofs.lemmas.Bool.{false≢true}
use Rattle.subdivision.specs.declared.Refused.{Refused}
use Rattle.subdivision.specs.Results.{Verdict, refused}
use Rattle.subdivision.specs.Formula.{Formula, Means, holds}
use Rattle.subdivision.specs.Lowest.{lowest, first}
use Rattle.subdivision.specs.Refusals.{Refusal, for_each, judged}
use Rattle.theory.proofs.Lowest.{first_some, first_none}
use Rattle.theory.proofs.Judgement.{judged_for_each_kept, judged_for_each_broken, lowest_all_means}
use Rattle.sheet.specs.Judgement.{refuse}

module _ (number items : ℕ) (clause : ℕ → Formula) (rs : List Refusal) (at : Option ℕ) (count : ℕ) (scan : at ≡ first (λ k. not (holds (clause k))) count) (same : count ≡ items) (v : Verdict) (said : v ≡ refuse number at) where
  scanned : at ≡ first (λ k. not (holds (clause k))) items
  scanned = scan ∙ (λ i. first (λ k. not (holds (clause k))) (same i))

  -- an item found at fault ends the judgement
  pub scan_refuses : (e : Refused) → v ≡ Err e → (r : Verdict) → r ≡ Err e → r ≡ judged (for_each number items clause ∷ rs)
  scan_refuses e p r q = q ∙ go at scanned (sym said ∙ p)
    where
      go : (f : Option ℕ) → f ≡ first (λ k. not (holds (clause k))) items → refuse number f ≡ Err e → Err e ≡ judged (for_each number items clause ∷ rs)
      go None s b = absurd (false≢true cc)
      go (Some i) s b =
          let f = first_some (λ k. not (holds (clause k))) items i (sym s) in
          sym b ∙ ap (refused number) (sym f.0) ∙ sym (judged_for_each_broken number items clause rs (rw f.0 f.1))

  -- with none at fault no item is
  none_there : (u : Unit {0}) → v ≡ Ok u → lowest (λ k. not (holds (clause k))) items ≡ items
  none_there u p = go at scanned (sym said ∙ p)
    where
      go : (f : Option ℕ) → f ≡ first (λ k. not (holds (clause k))) items → refuse number f ≡ Ok u → lowest (λ k. not (holds (clause k))) items ≡ items
      go (Some i) s b = absurd (false≢true cc)
      go None s b = first_none (λ k. not (holds (clause k))) items (sym s)

  -- with none at fault the judgement goes on
  pub scan_passes : (u : Unit {0}) → v ≡ Ok u → judged (for_each number items clause ∷ rs) ≡ judged rs
  scan_passes u p = judged_for_each_kept number items clause rs (none_there u p)

  -- and every item keeps the clause
  pub scan_keeps : (u : Unit {0}) → v ≡ Ok u → (k : ℕ) → k < items → Means (clause k)
  scan_keeps u p = lowest_all_means items clause (none_there u p)

-- the last of a part's lines, judged by its scan
pub scan_judges : (number items : ℕ) (clause : ℕ → Formula) (at : Option ℕ) (count : ℕ) → at ≡ first (λ k. not (holds (clause k))) count → count ≡ items
    → refuse number at ≡ judged (for_each number items clause ∷ [])
scan_judges number items clause at count scan same = go (refuse number at) refl
  where
    go : (v : Verdict) → refuse number at ≡ v → v ≡ judged (for_each number items clause ∷ [])
    go (Err e) p = scan_refuses number items clause [] at count scan same (Err e) (sym p) e refl (Err e) refl
    go (Ok u) p = sym (scan_passes number items clause [] at count scan same (Ok u) (sym p) u refl)
