-- What is entered for a zone by where the samples lie, and what a month leaves of the zones by that.
use Rattle.std.specs.Prelude.{true, false, List, [], ◌∷◌, ◌++◌, ℕ, zero, suc, eqb, ltb, Float, length, get_or}
use Rattle.subdivision.specs.Lists.{put}
use Rattle.subdivision.specs.Lowest.{lowest}
use Rattle.subdivision.specs.Results.{refused}
use Rattle.ledger.specs.declared.Tally.{Tally}
use Rattle.ledger.specs.declared.Judgement.{Judgement}
use Rattle.ledger.specs.Results.{listed}
use Rattle.ledger.specs.Readings.{permit_of}
use Rattle.ledger.specs.Tallies.{none_entered, entering, judge, judgement_word, write_mean}
use Rattle.ledger.specs.Months.{Samples, Lent, Left, sample_count, reading_at, those}
use Rattle.ledger.specs.Promises.{left_of}
use Rattle.samples.specs.declared.Spot.{Spot}
use Rattle.samples.specs.Spots.{coarse, lies_at}

-- the three words of a zone
abbrev pub zone_words : Tally → Judgement → List ℕ
zone_words t j = t.count ∷ t.below ∷ judgement_word j ∷ []

-- what is entered for zone z, of the first so many samples, where these are the numbers of their zones
abbrev pub tally_over : Samples → List ℕ → ℕ → ℕ → Tally
tally_over t numbers z k = entering (reading_at t) none_entered (those (λ i. eqb (get_or numbers i 0) z) k)

module _ (t : Samples) (places : List Spot) where
  -- what is entered for zone z, of the first so many samples
  abbrev pub tally_by : ℕ → ℕ → Tally
  tally_by z k = entering (reading_at t) none_entered (those (lies_at places (Spot.Zone z)) k)

  module _ (permits : List Float) where
    -- the judgement of zone z
    abbrev pub judgement_by : ℕ → Judgement
    judgement_by z = judge (permit_of permits z) (tally_by z (length places))

    -- the words of the first so many zones
    abbrev pub words_by : ℕ → List ℕ
    words_by zero = []
    words_by (suc z) = words_by z ++ zone_words (tally_by z (length places)) (judgement_by z)

    -- the means of the first so many zones
    abbrev pub means_by : List Float → ℕ → List Float
    means_by means zero = means
    means_by means (suc z) = write_mean (judgement_by z) (means_by means z) z

    -- the lowest sample with its limit above the floor of its zone; their number where there is none
    abbrev pub coarsest : ℕ → ℕ
    coarsest n = lowest (λ k. coarse permits n (reading_at t k) (get_or places k Spot.Untaken)) (sample_count t)

    -- what is left of a month whose samples lie so: 41, or the lists, the zones and the means
    abbrev pub left_by : ℕ → Lent → Left
    left_by n lent =
        elim (ltb (coarsest n) (sample_count t)) [
          | true ↦ record { month = refused 41 (coarsest n); lent = lent }
          | false ↦
              left_of (listed (length (those (lies_at places Spot.Boundary) (length places))) (length (those (lies_at places Spot.OffSheet) (length places))))
              (put (those (lies_at places Spot.Boundary) (length places)) lent.boundary)
              (put (those (lies_at places Spot.OffSheet) (length places)) lent.off)
              (put (words_by n) lent.results)
              (means_by lent.means n)
        ]
