-- A month by where its samples lie is the month defined, once the refusals before a sample is placed have passed.
use mathlib.Core.Path.{◌≡◌, refl, sym, ap, ◌∙◌}
use mathlib.Core.Bool.{Bool, true, false, not}
use mathlib.Core.List.{List, [], ◌∷◌}
use Prim.Native.Nat.{ℕ, ◌-◌, ◌<◌, ◌≤◌}
use native.Mathlib.Omega.{arith}
use borrow.Author.Tests.{ltb-true, ltb-false}
use lib.Dec.{ltb}
use lib.Ieee.{Float}
use lib.ListN.{length, get_or, replicate, length-replicate}
use Rattle.subdivision.specs.Results.{Reply, passed, refused}
use Rattle.subdivision.specs.Formula.{Formula, holds}
use Rattle.subdivision.specs.Limits.{max_zones, max_examined}
use Rattle.subdivision.specs.Dyadic.{bits}
use Rattle.subdivision.specs.Lists.{tab, put}
use Rattle.subdivision.specs.Lowest.{lowest}
use Rattle.subdivision.specs.Sheet.{Sheet, zone_count}
use Rattle.subdivision.specs.Refusals.{Refusal, for_each, judged}
use Rattle.subdivision.specs.Faults.{AllKept}
use Rattle.ledger.specs.Results.{listed}
use Rattle.ledger.specs.Readings.{passes, taken}
use Rattle.ledger.specs.Tallies.{none_entered, entering}
use Rattle.ledger.specs.Months.{Samples, Lent, Left, sample_count, reading_at, sample_x, sample_y, in_zone, on_boundary, off_sheet, damaged, too_coarse, those, taken_and, samples_that, tally_of, entered, month_refusals, month_by, searched_at, month_of}
use Rattle.ledger.specs.Promises.{left_of}
use Rattle.theory.proofs.Dyadic.{few_edges}
use Rattle.theory.proofs.Judgement.{passed_keeps, refused_first, passed_first, judged_for_each_kept, judged_for_each_broken}
use Rattle.theory.proofs.Lists.{length_tab, get_d_tab}
use Rattle.theory.proofs.Lowest.{lowest_le, lowest_same}
use Rattle.theory.proofs.SearchAnswers.{searched_zone, searched_refusals}
use Rattle.accounting.proofs.Tests.{not_passes}
use Rattle.accounting.proofs.Those.{those_same}
use Rattle.months.specs.Lines.{lent_refusals, placed_refusals}
use Rattle.samples.specs.declared.Spot.{Spot}
use Rattle.samples.specs.Spots.{found_spot, nowhere, spot_in, coarse, lies_at, same_spot}
use Rattle.samples.specs.Zones.{tally_by, words_by, means_by, coarsest, left_by}
use Rattle.months.proofs.Spots.{Fair, zone_spot, boundary_spot, off_spot, damaged_spot, coarse_spot, taken_spot, taken_nowhere}
use Rattle.samples.proofs.ZoneWords.{words_same, means_same}

module _ (s : Sheet) (index : List ℕ) (t : Samples) (permits : List Float) (lent : Lent) where
  -- the answer for a sample
  abbrev answer : ℕ → Reply
  answer = searched_at s index t

  -- where a sample lies, once it is placed
  abbrev pub spot : ℕ → Spot
  spot k = spot_in (found_spot s index t k)

  -- a sample is not placed
  abbrev pub lost : ℕ → Bool
  lost k = nowhere (found_spot s index t k)

  -- the lines of the month
  abbrev lines : List Refusal
  lines = month_refusals answer t permits s (length index) lent

  -- a month that a line refuses
  pub month_refused : (number item : ℕ) → judged lines ≡ refused number item → month_of s index t permits lent ≡ record { month = refused number item; lent = lent }
  unfolding month_by
  month_refused number item e = rw (e, month_by)

  -- a month that none refuses
  pub month_passed : judged lines ≡ passed → month_of s index t permits lent ≡ entered answer t permits s lent
  unfolding month_by
  month_passed e = rw (e, month_by)

  -- a refusal before a sample is placed
  pub by_lent : (number item : ℕ) → judged (lent_refusals s (length index) t permits lent) ≡ refused number item
      → month_of s index t permits lent ≡ record { month = refused number item; lent = lent }
  by_lent number item e = month_refused number item (refused_first (lent_refusals s (length index) t permits lent) (placed_refusals answer t permits) number item e)

  module _ (passed : judged (lent_refusals s (length index) t permits lent) ≡ passed) where
    -- every line before is kept
    kept : AllKept (lent_refusals s (length index) t permits lent)
    kept = passed_keeps (lent_refusals s (length index) t permits lent) passed

    few : zone_count s ≤ max_zones
    few = kept.0.1.1.1

    -- past those lines, 22 and 41 are left
    past : judged lines ≡ judged (placed_refusals answer t permits)
    past = passed_first (lent_refusals s (length index) t permits lent) (placed_refusals answer t permits) passed

    -- the answers are those that a search may give
    pub fair : (k : ℕ) → Fair (zone_count s) (answer k)
    unfolding searched_at
    fair k =
        let trail = replicate {A = ℕ} max_examined 0 in
        let room : bits (zone_count s - 1) ≤ length trail = rw length-replicate (few_edges (zone_count s) few) in
        (searched_zone s index (sample_x t k) (sample_y t k) trail, λ number item e. (searched_refusals s index (sample_x t k) (sample_y t k) trail (kept.0, (kept.1.0, tt)) kept.1.1.0 room number item e).0)

    -- the clause of 22
    abbrev undamaged : ℕ → Formula
    undamaged k = passes (not (taken_and answer t damaged k))

    -- the clause of 41
    abbrev fine : ℕ → Formula
    fine k = passes (not (too_coarse permits (reading_at t k) (answer k)))

    -- a sample is not placed where 22 is given for it
    damaged_same : (k : ℕ) → lost k ≡ taken_and answer t damaged k
    damaged_same k =
        taken_nowhere (taken (reading_at t k)) (answer k) (damaged (answer k)) (damaged_spot (zone_count s) (answer k) (fair k))

    -- so is the lowest
    lowest_damaged : lowest lost (sample_count t) ≡ lowest (λ k. not (holds (undamaged k))) (sample_count t)
    lowest_damaged =
        lowest_same lost (λ k. not (holds (undamaged k))) (sample_count t) (λ k h. damaged_same k ∙ sym (not_passes (taken_and answer t damaged k)))

    -- 22
    pub by_damage : (r : ℕ) → r ≡ lowest lost (sample_count t) → r < sample_count t
        → month_of s index t permits lent ≡ record { month = refused 22 r; lent = lent }
    by_damage r e h =
        let same = e ∙ lowest_damaged in
        month_refused 22 r (past ∙ judged_for_each_broken 22 (sample_count t) undamaged (for_each 41 (sample_count t) fine ∷ []) (rw same at h) ∙ ap (refused 22) (sym same))

    module _ (whole : lowest lost (sample_count t) ≡ sample_count t) where
      -- where the samples lie
      abbrev places : List Spot
      places = tab spot (sample_count t)

      past_22 : judged lines ≡ judged (for_each 41 (sample_count t) fine ∷ [])
      past_22 = past ∙ judged_for_each_kept 22 (sample_count t) undamaged (for_each 41 (sample_count t) fine ∷ []) (sym lowest_damaged ∙ whole)

      at : (k : ℕ) → k < sample_count t → get_or places k Spot.Untaken ≡ spot k
      at k h = get_d_tab spot (sample_count t) k Spot.Untaken h

      -- a sample is too coarse where it lies as by its answer
      lowest_coarse : coarsest t places permits (zone_count s) ≡ lowest (λ k. not (holds (fine k))) (sample_count t)
      lowest_coarse =
          lowest_same (λ k. coarse permits (zone_count s) (reading_at t k) (get_or places k Spot.Untaken)) (λ k. not (holds (fine k))) (sample_count t)
          (λ k h. ap (coarse permits (zone_count s) (reading_at t k)) (at k h) ∙ coarse_spot (zone_count s) permits (reading_at t k) (answer k) (fair k) ∙ sym (not_passes (too_coarse permits (reading_at t k) (answer k))))

      -- the samples that lie at a spot are those whose answers pass a test
      those_at : (w : Spot) (test : Reply → Bool) → ((k : ℕ) → same_spot (spot k) w ≡ taken_and answer t test k) → those (lies_at places w) (length places) ≡ samples_that answer t test
      those_at w test f =
          ap (those (lies_at places w)) (length_tab spot (sample_count t))
          ∙ those_same (lies_at places w) (taken_and answer t test) (sample_count t) (λ k h. ap (λ q. same_spot q w) (at k h) ∙ f k)

      on_boundaries : those (lies_at places Spot.Boundary) (length places) ≡ samples_that answer t on_boundary
      on_boundaries =
          those_at Spot.Boundary on_boundary (λ k. taken_spot (taken (reading_at t k)) (answer k) Spot.Boundary (on_boundary (answer k)) refl (boundary_spot (answer k)))

      off_sheet_lem : those (lies_at places Spot.OffSheet) (length places) ≡ samples_that answer t off_sheet
      off_sheet_lem =
          those_at Spot.OffSheet off_sheet (λ k. taken_spot (taken (reading_at t k)) (answer k) Spot.OffSheet (off_sheet (answer k)) refl (off_spot (answer k)))

      tallied : (z : ℕ) → z < zone_count s → tally_by t places z (length places) ≡ tally_of answer t z
      tallied z h =
          ap (entering (reading_at t) none_entered)
          (those_at (Spot.Zone z) (in_zone z) (λ k. taken_spot (taken (reading_at t k)) (answer k) (Spot.Zone z) (in_zone z (answer k)) refl (zone_spot z (answer k))))

      -- what is left by where the samples lie is what the month leaves
      pub by_places : left_by t places permits (zone_count s) lent ≡ month_of s index t permits lent
      by_places = go (ltb (coarsest t places permits (zone_count s)) (sample_count t)) refl
        where
          good : Left
          good =
              left_of (listed (length (those (lies_at places Spot.Boundary) (length places))) (length (those (lies_at places Spot.OffSheet) (length places))))
              (put (those (lies_at places Spot.Boundary) (length places)) lent.boundary)
              (put (those (lies_at places Spot.OffSheet) (length places)) lent.off)
              (put (words_by t places permits (zone_count s)) lent.results)
              (means_by t places permits lent.means (zone_count s))

          good_is : good ≡ entered answer t permits s lent
          good_is =
              λ i. left_of (listed (length (on_boundaries i)) (length (off_sheet_lem i))) (put (on_boundaries i) lent.boundary) (put (off_sheet_lem i) lent.off)
              (put (words_same t places permits answer (zone_count s) tallied (zone_count s) (omega arith) i) lent.results)
              (means_same t places permits answer (zone_count s) tallied lent.means (zone_count s) (omega arith) i)

          go : (b : Bool) → ltb (coarsest t places permits (zone_count s)) (sample_count t) ≡ b
              → (elim b [ true ↦ record { month = refused 41 (coarsest t places permits (zone_count s)); lent = lent } | false ↦ good ]) ≡ month_of s index t permits lent
          go true e =
              let below : lowest (λ k. not (holds (fine k))) (sample_count t) < sample_count t = rw lowest_coarse at (ltb-true (coarsest t places permits (zone_count s)) (sample_count t) e) in
              sym (month_refused 41 (coarsest t places permits (zone_count s)) (past_22 ∙ judged_for_each_broken 41 (sample_count t) fine [] below ∙ ap (refused 41) (sym lowest_coarse)))
          go false e =
              let above = ltb-false (coarsest t places permits (zone_count s)) (sample_count t) e in
              let all : lowest (λ k. not (holds (fine k))) (sample_count t) ≡ sample_count t = omega (arith, above, lowest_coarse, lowest_le (λ k. not (holds (fine k))) (sample_count t)) in
              good_is ∙ sym (month_passed (past_22 ∙ judged_for_each_kept 41 (sample_count t) fine [] all))
