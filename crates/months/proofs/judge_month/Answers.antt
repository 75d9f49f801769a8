-- What is lent is checked, the samples are placed, and the month is judged by where they lie.
use Rattle.std.proofs.Common.{T, subst, refl, get_or, ◌≡◌, ℕ, List, Some, None, length, take, sym, ap, ◌∙◌, replicate, Err}
use Rattle.std.proofs.Math.Seq.{take-append_seam}
use Rattle.std.proofs.lemmas.Result.{err_from_is_err_and}
use Rattle.subdivision.specs.Lists.{tab, put}
use Rattle.subdivision.specs.Lowest.{lowest, first}
use Rattle.subdivision.specs.Results.{passed}
use Rattle.subdivision.specs.Refusals.{judged}
use Rattle.ledger.specs.Months.{max_samples, Samples, lent_of, sample_count}
use Rattle.theory.proofs.Lists.{length_tab}
use Rattle.theory.proofs.Lowest.{first_some, first_none}
use Rattle.tables.specs.Lent.{lent}
use Rattle.tallies.specs.Lent.{lent_samples}
use Rattle.samples.specs.declared.Spot.{Spot}
use Rattle.std.specs.Float.{nan, binary64}
use Rattle.std.specs.Float.Ieee.{fits}
use Rattle.samples.specs.Doubles.{Doubles}
use Rattle.samples.specs.Room.{HasRoom}
use Rattle.samples.specs.Spots.{found_spot, nowhere, spot_in}
use Rattle.samples.specs.Zones.{left_by}
use Rattle.months.specs.Lines.{lent_refusals}
use Rattle.months.proofs.Month.{by_lent, by_damage, by_places}
use Rattle.months.proofs.Promised.{promised, promised_refused}
use Rattle.months.proofs.judge_month.Goals as goal

-- the front of the places is where the samples lie, where every sample is placed
front : (spots : ℕ → Spot) (n : ℕ) (places : List Spot) {r m : ℕ} → places ≡ put (tab spots r) (replicate max_samples Spot.Untaken) → r ≡ n → m ≡ n → take m places ≡ tab spots n
front spots n places e all many =
    (λ i. take (many i) (e i))
    ∙ ap (λ r. take n (put (tab spots r) (replicate max_samples Spot.Untaken))) all
    ∙ ap (λ r. take r (put (tab spots n) (replicate max_samples Spot.Untaken))) (sym (length_tab spots n))
    ∙ take-append_seam (tab spots n) _

-- the values of the lent samples are doubles where those of the kept ones are
doubles_held : {u t : Samples} → u ≡ t → Doubles u.values → (k : ℕ) → T (fits binary64 (get_or t.values k nan))
doubles_held same h k =
    subst (λ (v : Samples). T (fits binary64 (get_or v.values k nan))) same (subst T (sym (h k)) tt)

pub returns-in_err-samples : goal.returns-in_err-samples
returns-in_err-samples c =
    let a = c.args in
    let s = lent a.sheet in
    let t = lent_samples a.samples in
    let l = lent_of a.boundary.now a.off.now a.results.now a.means.now in
    let x = err_from_is_err_and c.from_residual.result c.from_residual.ensures.1 in
    let e : judged (lent_refusals s (length a.index.now) t a.permits.now l) ≡ Err c.in_err-samples.field-0.0 = c.in_err-samples.ensures in
    let p = promised_refused s a.index.now t a.permits.now l c.from_residual.result _ _ (x.1 ∙ ap Err x.2) (by_lent s a.index.now t a.permits.now l _ _ e) in
    record { left = p.0; refused = p.1.0; untouched = p.1.1.0; one_place = p.1.1.1.0; one_value = p.1.1.1.1.0; outside = p.1.1.1.1.1.0; read_plainly = p.1.1.1.1.1.1 }

pub returns-in-Some : goal.returns-in-Some
returns-in-Some c =
    let a = c.args in
    let s = lent a.sheet in
    let t = lent_samples a.samples in
    let l = lent_of a.boundary.now a.off.now a.results.now a.means.now in
    let h : (judged (lent_refusals s (length a.index.now) t a.permits.now l) ≡ passed) × HasRoom t a.permits.now a.sheet.zones l c.in_ok-samples.samples c.in_ok-samples.permits = c.in_ok-samples.ensures in
    let found : Some c.in-Some.k ≡ first (λ k. nowhere (found_spot s a.index.now t k)) (sample_count t) =
    c.in-Some.ensures.value ∙ (λ i. first (λ k. nowhere (found_spot s a.index.now (h.1.1.0 i) k)) (sample_count (h.1.1.0 i))) in
    let least = first_some (λ k. nowhere (found_spot s a.index.now t k)) (sample_count t) c.in-Some.k (sym found) in
    let p = promised_refused s a.index.now t a.permits.now l _ 22 c.in-Some.k refl (by_damage s a.index.now t a.permits.now l h.0 c.in-Some.k (sym least.0) least.1) in
    record { left = p.0; refused = p.1.0; untouched = p.1.1.0; one_place = p.1.1.1.0; one_value = p.1.1.1.1.0; outside = p.1.1.1.1.1.0; read_plainly = p.1.1.1.1.1.1 }

pub returns : goal.returns
returns c =
    let a = c.args in
    let s = lent a.sheet in
    let t = lent_samples a.samples in
    let l = lent_of a.boundary.now a.off.now a.results.now a.means.now in
    let n = sample_count t in
    let h : (judged (lent_refusals s (length a.index.now) t a.permits.now l) ≡ passed) × HasRoom t a.permits.now a.sheet.zones l c.in_ok-samples.samples c.in_ok-samples.permits = c.in_ok-samples.ensures in
    let none : None ≡ first (λ k. nowhere (found_spot s a.index.now t k)) n =
    c.in_default.ensures.value ∙ (λ i. first (λ k. nowhere (found_spot s a.index.now (h.1.1.0 i) k)) (sample_count (h.1.1.0 i))) in
    let whole = first_none (λ k. nowhere (found_spot s a.index.now t k)) n (sym none) in
    let written =
    c.place_samples.ensures.places_after
    ∙ (λ i. put (tab (λ k. spot_in (found_spot s a.index.now (h.1.1.0 i) k)) (lowest (λ k. nowhere (found_spot s a.index.now (h.1.1.0 i) k)) (sample_count (h.1.1.0 i)))) (replicate max_samples Spot.Untaken)) in
    let places = front (λ k. spot_in (found_spot s a.index.now t k)) n c.place_samples.new.places written whole (c.count.ensures ∙ ap sample_count h.1.1.0) in
    let left =
    c.enter_month.ensures
    ∙ (λ i. left_by (h.1.1.0 i) (places i) (h.1.1.1.0 i) (h.1.1.1.1 i) l)
    ∙ by_places s a.index.now t a.permits.now l h.0 whole in
    let p = promised s a.index.now t a.permits.now l _ left (λ boundary off e k q. doubles_held h.1.1.0 c.in_ok-samples.samples.doubles k) in
    record { left = p.0; refused = p.1.0; untouched = p.1.1.0; one_place = p.1.1.1.0; one_value = p.1.1.1.1.0; outside = p.1.1.1.1.1.0; read_plainly = p.1.1.1.1.1.1 }
