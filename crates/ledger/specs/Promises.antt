-- What a good month promises beside its equation: where its samples are, what one value gives, and what samples outside every zone change.
use Rattle.std.specs.Prelude.{◌≡◌, true, false, List, [], ◌∷◌, ◌⊎◌, ℕ, zero, suc, ◌+◌, ◌*◌, ◌<◌, eqb, Float, length, get_or, Ok, Err}
use Rattle.std.specs.Float.{nan}
use Rattle.subdivision.specs.Results.{Reply, refused, reply_of}
use Rattle.subdivision.specs.declared.Answer.{Answer}
use Rattle.subdivision.specs.Lists.{put}
use Rattle.subdivision.specs.Sheet.{Sheet, zone_count}
use Rattle.subdivision.specs.Accepted.{Accepted}
use Rattle.subdivision.specs.Engine.{HoldsIndex}
use Rattle.ledger.specs.Results.{Month, listed}
use Rattle.ledger.specs.Readings.{taken, enters_at}
use Rattle.ledger.specs.Months.{Samples, Lent, Left, sample_count, reading_at, in_zone, on_boundary, off_sheet, taken_and, samples_that, result_words, means_left, month_by, searched_at, read_at}

-- how often a number is in a list
abbrev pub times : ℕ → List ℕ → ℕ
times k [] = 0
times k (j ∷ js) = elim (eqb j k) [ true ↦ 1 + times k js | false ↦ times k js ]

-- the sum of a function's values below a count
abbrev pub sum_below : (ℕ → ℕ) → ℕ → ℕ
sum_below f zero = 0
sum_below f (suc k) = sum_below f k + f k

module _ (answer : ℕ → Reply) (t : Samples) where
  -- how often sample k is among the samples of the zones, the boundary list and the off-sheet list, together
  abbrev pub appearances : ℕ → ℕ → ℕ
  appearances n k =
      sum_below (λ z. times k (samples_that answer t (in_zone z))) n + (times k (samples_that answer t on_boundary) + times k (samples_that answer t off_sheet))

  -- every taken sample is in exactly one of them, once; a sample not taken is in none
  abbrev pub OnePlace : ℕ → Type 0
  OnePlace n = (k : ℕ) → k < sample_count t → appearances n k ≡ (elim (taken (reading_at t k)) [ true ↦ 1 | false ↦ 0 ])

  -- the count of each zone is the number of its samples
  abbrev pub CountsSamples : ℕ → List ℕ → Type 0
  CountsSamples n results = (z : ℕ) → z < n → get_or results (3 * z) 0 ≡ length (samples_that answer t (in_zone z))

  -- the mean of a zone with one sample is what that sample enters at, bit for bit
  abbrev pub OneValue : ℕ → List Float → Type 0
  OneValue n means = (z k : ℕ) → z < n → samples_that answer t (in_zone z) ≡ k ∷ [] → get_or means z nan ≡ enters_at (reading_at t k)

  -- sample k is in no zone: it is not taken, on a boundary or off the sheet
  abbrev pub Outside : ℕ → Type 0
  Outside k = (z : ℕ) → taken_and answer t (in_zone z) k ≡ false

-- two months with as many samples, of which each has the same reading and answer in both, or is in no zone in either
abbrev pub SameInZones : (ℕ → Reply) → Samples → (ℕ → Reply) → Samples → Type 0
SameInZones answer t other u =
    (sample_count t ≡ sample_count u)
    × ((k : ℕ) → k < sample_count t → ((reading_at t k ≡ reading_at u k) × (answer k ≡ other k)) ⊎ (Outside answer t k × Outside other u k))

module _ (s : Sheet) (index : List ℕ) (t : Samples) (permits : List Float) (lent : Lent) where
  -- samples that are in no zone change no zone's count, mean or judgement: what is left is what any month leaves that differs in such samples alone
  abbrev pub OutsideChangesNothing : List ℕ → List Float → Type 0
  OutsideChangesNothing results means =
      (other : ℕ → Reply) (u : Samples) → SameInZones (searched_at s index t) t other u
      → (results ≡ put (result_words other u permits (zone_count s)) lent.results) × (means ≡ means_left other u permits lent.means (zone_count s))

  -- on an accepted sheet, with an index that holds what opening writes, what is left is the month by the plain reading
  abbrev pub ReadPlainly : Left → Type 0
  ReadPlainly left = Accepted s → HoldsIndex s index → left ≡ month_by (read_at s t) t permits s (length index) lent

-- what is left, of an answer and the four lists
abbrev pub left_of : Month → List ℕ → List ℕ → List ℕ → List Float → Left
left_of month boundary off results means =
    record { month = month; lent = record { boundary = boundary; off = off; results = results; means = means } }
