-- A month: its refusals in order, its lists, its zone results and its means. Document 02, P2, from "A sample in a zone whose own detection
-- limit" on.
use Rattle.std.specs.Prelude.{Bool, true, false, not, List, [], ◌∷◌, ◌++◌, ℕ, zero, suc, ◌+◌, ◌*◌, eqb, Float, ℤ, pos, length, get_or, replicate, Ok, Err}
use Rattle.std.specs.Float.{nan}
use Rattle.std.specs.Float.Ieee.{lt}
use Rattle.subdivision.specs.Results.{Reply, refused, reply_of}
use Rattle.subdivision.specs.declared.Answer.{Answer}
use Rattle.subdivision.specs.Formula.{Formula, is_at_most, is_equal, both}
use Rattle.subdivision.specs.Limits.{max_examined}
use Rattle.subdivision.specs.Lists.{put}
use Rattle.subdivision.specs.Sheet.{Sheet, zone_count}
use Rattle.subdivision.specs.Refusals.{Refusal, unnamed, for_each, judged, limit_refusals, room_refusal}
use Rattle.subdivision.specs.Calls.{reading, searching}
use Rattle.ledger.specs.declared.Reading.{Reading}
use Rattle.ledger.specs.declared.Tally.{Tally}
use Rattle.ledger.specs.declared.Judgement.{Judgement}
use Rattle.ledger.specs.Results.{Month, listed}
use Rattle.ledger.specs.Readings.{passes, reading_of, taken, reading_sound, permit_of, permit_sound}
use Rattle.ledger.specs.Tallies.{none_entered, entering, judge, judgement_word, write_mean}

-- at most 4,096 samples
abbrev pub max_samples : ℕ
max_samples = 4096

-- the samples as they are lent: the flat words of the points (x, y), the kinds, the values
pub record Samples : Type 0 where
  pub points : List ℤ
  pub kinds : List ℕ
  pub values : List Float

-- the samples of three lent lists
abbrev pub samples_of : List ℤ → List ℕ → List Float → Samples
samples_of points kinds values = record { points = points; kinds = kinds; values = values }

-- what a month is lent to write to: the boundary list, the off-sheet list, three words a zone, a mean a zone
pub record Lent : Type 0 where
  pub boundary : List ℕ
  pub off : List ℕ
  pub results : List ℕ
  pub means : List Float

-- the four lent lists
abbrev pub lent_of : List ℕ → List ℕ → List ℕ → List Float → Lent
lent_of boundary off results means = record { boundary = boundary; off = off; results = results; means = means }

-- what a month leaves: its answer, and the lent lists
pub record Left : Type 0 where
  pub month : Month
  pub lent : Lent

module _ (t : Samples) where
  -- the number of samples
  abbrev pub sample_count : ℕ
  sample_count = length t.kinds

  -- the reading of sample k
  abbrev pub reading_at : ℕ → Reading
  reading_at k = reading_of (get_or t.kinds k 0) (get_or t.values k nan)

  -- x of sample k
  abbrev pub sample_x : ℕ → ℤ
  sample_x k = get_or t.points (2 * k) (pos 0)

  -- y of sample k
  abbrev pub sample_y : ℕ → ℤ
  sample_y k = get_or t.points (2 * k + 1) (pos 0)

-- ---- where an answer puts a sample

-- in zone z
abbrev pub in_zone : ℕ → Reply → Bool
in_zone z (Ok (Answer.Vertex v)) = false
in_zone z (Ok (Answer.Edge e)) = false
in_zone z (Ok (Answer.Zone y)) = eqb y z
in_zone z (Err e) = false

-- on an edge or vertex
abbrev pub on_boundary : Reply → Bool
on_boundary (Ok (Answer.Vertex v)) = true
on_boundary (Ok (Answer.Edge e)) = true
on_boundary (Ok (Answer.Zone z)) = false
on_boundary (Err e) = false

-- turned away by 20
abbrev pub off_sheet : Reply → Bool
off_sheet (Ok (Answer.Vertex v)) = false
off_sheet (Ok (Answer.Edge e)) = false
off_sheet (Ok (Answer.Zone z)) = false
off_sheet (Err e) = eqb e.number 20

-- the search's 22
abbrev pub damaged : Reply → Bool
damaged (Ok (Answer.Vertex v)) = false
damaged (Ok (Answer.Edge e)) = false
damaged (Ok (Answer.Zone z)) = false
damaged (Err e) = eqb e.number 22

-- a detection limit above the floor of the zone in which the answer puts it
abbrev pub above_floor : List Float → Float → Reply → Bool
above_floor permits limit (Ok (Answer.Vertex v)) = false
above_floor permits limit (Ok (Answer.Edge e)) = false
above_floor permits limit (Ok (Answer.Zone z)) = lt (permit_of permits z).floor limit
above_floor permits limit (Err e) = false

-- 41 is given for a reading with this answer: it is below detection, in a zone, and its own limit is above that zone's floor
abbrev pub too_coarse : List Float → Reading → Reply → Bool
too_coarse permits Reading.NotTaken a = false
too_coarse permits (Reading.Measured value) a = false
too_coarse permits (Reading.BelowDetection limit) a = above_floor permits limit a
too_coarse permits Reading.Unknown a = false

-- the numbers below a count that pass a test, in order
abbrev pub those : (ℕ → Bool) → ℕ → List ℕ
those test zero = []
those test (suc k) = those test k ++ (elim (test k) [ true ↦ k ∷ [] | false ↦ [] ])

-- 43 is not given: no more samples than the limit, as many points, kinds and values, lists as long as the samples, permits and zone results for every zone
abbrev pub room_kept : Samples → List Float → Sheet → Lent → Formula
room_kept t permits s lent =
    both
    (both (is_at_most (sample_count t) max_samples) (both (is_equal (length t.points) (2 * sample_count t)) (is_equal (length t.values) (sample_count t))))
    (both
    (both (is_at_most (sample_count t) (length lent.boundary)) (is_at_most (sample_count t) (length lent.off)))
    (both
    (is_at_most (2 * zone_count s) (length permits))
    (both (is_at_most (3 * zone_count s) (length lent.results)) (is_at_most (zone_count s) (length lent.means)))))

-- ---- a month, by what is answered for each sample

module _ (answer : ℕ → Reply) (t : Samples) where
  -- sample k is taken, and its answer passes the test
  abbrev pub taken_and : (Reply → Bool) → ℕ → Bool
  taken_and test k = elim (taken (reading_at t k)) [ true ↦ test (answer k) | false ↦ false ]

  -- the taken samples whose answers pass the test, in sample order
  abbrev pub samples_that : (Reply → Bool) → List ℕ
  samples_that test = those (taken_and test) (sample_count t)

  -- what is entered for zone z: its taken samples, in sample order
  abbrev pub tally_of : ℕ → Tally
  tally_of z = entering (reading_at t) none_entered (samples_that (in_zone z))

  module _ (permits : List Float) where
    -- the judgement of zone z
    abbrev pub judgement_of : ℕ → Judgement
    judgement_of z = judge (permit_of permits z) (tally_of z)

    -- the words of zone z: count, count below detection, judgement
    abbrev pub zone_results : ℕ → List ℕ
    zone_results z = (tally_of z).count ∷ (tally_of z).below ∷ judgement_word (judgement_of z) ∷ []

    -- the words of the first so many zones
    abbrev pub result_words : ℕ → List ℕ
    result_words zero = []
    result_words (suc z) = result_words z ++ zone_results z

    -- the means of the first so many zones, written among lent ones
    abbrev pub means_left : List Float → ℕ → List Float
    means_left means zero = means
    means_left means (suc z) = write_mean (judgement_of z) (means_left means z) z

    -- what a good month leaves
    abbrev pub entered : Sheet → Lent → Left
    entered s lent =
        record {
          month = listed (length (samples_that on_boundary)) (length (samples_that off_sheet));
          lent =
              record {
                boundary = put (samples_that on_boundary) lent.boundary;
                off = put (samples_that off_sheet) lent.off;
                results = put (result_words (zone_count s)) lent.results;
                means = means_left lent.means (zone_count s);
              };
        }

    -- the month's own refusals, in order: 43, 42, 40, 22, 41
    abbrev pub own_refusals : Sheet → Lent → List Refusal
    own_refusals s lent =
        unnamed 43 (room_kept t permits s lent)
        ∷ for_each 42 (zone_count s) (λ z. permit_sound (permit_of permits z))
        ∷ for_each 40 (sample_count t) (λ k. passes (reading_sound (reading_at t k)))
        ∷ for_each 22 (sample_count t) (λ k. passes (not (taken_and damaged k)))
        ∷ for_each 41 (sample_count t) (λ k. passes (not (too_coarse permits (reading_at t k) (answer k))))
        ∷ []

    -- all of them, after the search's about tables and index
    abbrev pub month_refusals : Sheet → ℕ → Lent → List Refusal
    month_refusals s words lent = limit_refusals s ++ (room_refusal s words ∷ own_refusals s lent)

    -- a refused month writes nothing
    unfoldable pub month_by : Sheet → ℕ → Lent → Left
    month_by s words lent =
        elim (judged (month_refusals s words lent)) [
          | Err e ↦ record { month = Err e; lent = lent }
          | Ok u ↦ entered s lent
        ]

-- ---- the month's answers: by the quick search, and by the plain reading

-- what the quick search says of sample k, over a trail of its own
unfoldable pub searched_at : Sheet → List ℕ → Samples → ℕ → Reply
searched_at s index t k = reply_of (searching s index (sample_x t k) (sample_y t k) (replicate max_examined 0)).found

-- what the plain reading says of sample k
abbrev pub read_at : Sheet → Samples → ℕ → Reply
read_at s t k = reading s (sample_x t k) (sample_y t k)

-- the month's call: the samples are placed by the quick search
abbrev pub month_of : Sheet → List ℕ → Samples → List Float → Lent → Left
month_of s index t permits lent = month_by (searched_at s index t) t permits s (length index) lent
