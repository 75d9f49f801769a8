-- The words and the means of the zones, written one zone after the other.
use mathlib.Core.Path.{◌≡◌, refl, ap, ◌∙◌}
use mathlib.Core.List.{List, ◌++◌}
use Prim.Native.Nat.{ℕ, zero, suc, ◌+◌, ◌*◌, ◌<◌, ◌≤◌}
use native.Mathlib.Numerals.{add-one}
use native.Mathlib.Omega.{arith}
use borrow.Author.Tests.{lt-ltb, le-ltb}
use lib.Ieee.{Float}
use lib.Dec.{eqb}
use lib.ListN.{length, length-append, get_or}
use Rattle.subdivision.specs.Results.{Reply, refused}
use Rattle.subdivision.specs.Lists.{tab, put, over}
use Rattle.ledger.specs.declared.Tally.{Tally}
use Rattle.ledger.specs.declared.Judgement.{Judgement}
use Rattle.ledger.specs.Results.{listed}
use Rattle.ledger.specs.Readings.{permit_of}
use Rattle.ledger.specs.Tallies.{none_entered, entering, judge, write_mean}
use Rattle.ledger.specs.Months.{Samples, Lent, sample_count, reading_at, those, tally_of, result_words, means_left}
use Rattle.ledger.specs.Promises.{left_of}
use Rattle.theory.proofs.Lists.{length_tab, get_d_tab}
use Rattle.theory.proofs.Written.{put_more}
use Rattle.accounting.proofs.Those.{those_same}
use Rattle.samples.specs.declared.Spot.{Spot}
use Rattle.samples.specs.Spots.{lies_at, zone_number}
use Rattle.samples.proofs.Spots.{number_is}
use Rattle.samples.specs.Zones.{zone_words, tally_over, tally_by, judgement_by, words_by, means_by, coarsest, left_by}

-- what is entered for a zone by the numbers of the samples' zones is what is entered for it by their spots
pub by_numbers : (t : Samples) (places : List Spot) (numbers : List ℕ) (z : ℕ) → z < 4294967295
    → numbers ≡ tab (λ k. zone_number (get_or places k Spot.Untaken)) (length places)
    → tally_over t numbers z (length numbers) ≡ tally_by t places z (length places)
by_numbers t places numbers z few same =
    rw same (ap (tally_over t (tab number (length places)) z) (length_tab number (length places)) ∙ ap (entering (reading_at t) none_entered) (those_same _ _ (length places) alike))
  where
    number : ℕ → ℕ
    number k = zone_number (get_or places k Spot.Untaken)

    alike : (k : ℕ) → k < length places → eqb (get_or (tab number (length places)) k 0) z ≡ lies_at places (Spot.Zone z) k
    alike k h = ap (λ n. eqb n z) (get_d_tab number (length places) k 0 h) ∙ number_is (get_or places k Spot.Untaken) z few

module _ (t : Samples) (places : List Spot) (permits : List Float) where
  -- three words a zone
  pub words_length : (z : ℕ) → length (words_by t places permits z) ≡ 3 * z
  words_length zero = refl
  words_length (suc z) =
      omega (arith, length-append (words_by t places permits z) (zone_words (tally_by t places z (length places)) (judgement_by t places permits z)), words_length z)

  -- the words of the next zone are written where those before it end
  pub words_next : (z : ℕ) (lent : List ℕ) (tally : Tally) (j : Judgement) → tally ≡ tally_by t places z (length places) → j ≡ judge (permit_of permits z) tally
      → over (zone_words tally j) (put (words_by t places permits z) lent) (3 * z) ≡ put (words_by t places permits (z + 1)) lent
  words_next z lent tally j e f =
      put_more (words_by t places permits z) (zone_words tally j) lent (3 * z) (omega (arith, words_length z))
      ∙ rw (add-one z) (λ i. put (words_by t places permits z ++ zone_words (e i) ((f ∙ ap (judge (permit_of permits z)) e) i)) lent)

  -- the mean of the next zone is written among those before it
  pub means_next : (z : ℕ) (means : List Float) (tally : Tally) (j : Judgement) → tally ≡ tally_by t places z (length places) → j ≡ judge (permit_of permits z) tally
      → write_mean j (means_by t places permits means z) z ≡ means_by t places permits means (z + 1)
  means_next z means tally j e f = rw (add-one z) (λ i. write_mean ((f ∙ ap (judge (permit_of permits z)) e) i) (means_by t places permits means z) z)

  -- a month with a limit above its zone's floor is refused
  pub left_coarse : (n : ℕ) (lent : Lent) (k : ℕ) → k ≡ coarsest t places permits n → k < sample_count t
      → record { month = refused 41 k; lent = lent } ≡ left_by t places permits n lent
  left_coarse n lent k e h =
      let below : coarsest t places permits n < sample_count t = rw e at h in
      rw (lt-ltb (coarsest t places permits n) (sample_count t) below, left_by) (ap (λ q. record { month = refused 41 q; lent = lent }) e)

  -- a month with none has its lists, its words and its means
  pub left_fine : (n : ℕ) (lent : Lent) → sample_count t ≤ coarsest t places permits n
      → left_of (listed (length (those (lies_at places Spot.Boundary) (length places))) (length (those (lies_at places Spot.OffSheet) (length places))))
      (put (those (lies_at places Spot.Boundary) (length places)) lent.boundary)
      (put (those (lies_at places Spot.OffSheet) (length places)) lent.off)
      (put (words_by t places permits n) lent.results)
      (means_by t places permits lent.means n)
      ≡ left_by t places permits n lent
  left_fine n lent h = rw (le-ltb (coarsest t places permits n) (sample_count t) h, left_by)

  -- where each zone's words give what its answers give, so do all of them
  module _ (answer : ℕ → Reply) (n : ℕ) (same : (z : ℕ) → z < n → tally_by t places z (length places) ≡ tally_of answer t z) where
    pub words_same : (z : ℕ) → z ≤ n → words_by t places permits z ≡ result_words answer t permits z
    words_same zero h = refl
    words_same (suc z) h =
        λ i. words_same z (omega arith) i ++ zone_words (same z h i) (judge (permit_of permits z) (same z h i))

    pub means_same : (means : List Float) (z : ℕ) → z ≤ n → means_by t places permits means z ≡ means_left answer t permits means z
    means_same means zero h = refl
    means_same means (suc z) h = λ i. write_mean (judge (permit_of permits z) (same z h i)) (means_same means z (omega arith) i) z
