-- Where the samples of a month lie.
use Rattle.std.specs.Prelude.{Bool, true, false, List, ℕ, eqb, ltb, Float, Option, Some, None, Ok, Err, get_or}
use Rattle.std.specs.Float.Ieee.{lt}
use Rattle.subdivision.specs.Results.{Reply}
use Rattle.subdivision.specs.Sheet.{Sheet}
use Rattle.subdivision.specs.declared.Answer.{Answer}
use Rattle.ledger.specs.declared.Reading.{Reading}
use Rattle.ledger.specs.Readings.{taken, permit_of}
use Rattle.ledger.specs.Months.{Samples, reading_at, searched_at}
use Rattle.samples.specs.declared.Spot.{Spot}

-- where an answer puts a taken sample; nowhere where it is refused otherwise than by 20
abbrev pub answer_spot : Reply → Option Spot
answer_spot (Ok (Answer.Vertex v)) = Some Spot.Boundary
answer_spot (Ok (Answer.Edge e)) = Some Spot.Boundary
answer_spot (Ok (Answer.Zone z)) = Some (Spot.Zone z)
answer_spot (Err e) = elim (eqb e.number 20) [ true ↦ Some Spot.OffSheet | false ↦ None ]

-- where a sample lies
abbrev pub sample_spot : Reading → Reply → Option Spot
sample_spot r a = elim (taken r) [ true ↦ answer_spot a | false ↦ Some Spot.Untaken ]

-- it lies nowhere
abbrev pub nowhere : Option Spot → Bool
nowhere None = true
nowhere (Some s) = false

-- the spot, where there is one
abbrev pub spot_in : Option Spot → Spot
spot_in None = Spot.Untaken
spot_in (Some s) = s

-- two spots are one
abbrev pub same_spot : Spot → Spot → Bool
same_spot Spot.Untaken Spot.Untaken = true
same_spot Spot.Boundary Spot.Boundary = true
same_spot Spot.OffSheet Spot.OffSheet = true
same_spot (Spot.Zone y) (Spot.Zone z) = eqb y z
same_spot s t = false

-- the number of a spot's zone, and one that no zone has where it is none
abbrev pub zone_number : Spot → ℕ
zone_number (Spot.Zone z) = z
zone_number s = 4294967295

-- a reading is below detection, with its limit above the floor of the zone of this spot
abbrev pub coarse : List Float → ℕ → Reading → Spot → Bool
coarse permits n (Reading.BelowDetection limit) (Spot.Zone z) = elim (ltb z n) [ true ↦ lt (permit_of permits z).floor limit | false ↦ false ]
coarse permits n r s = false

-- sample k lies there
abbrev pub lies_at : List Spot → Spot → ℕ → Bool
lies_at places s k = same_spot (get_or places k Spot.Untaken) s

-- where sample k lies, by the quick search
abbrev pub found_spot : Sheet → List ℕ → Samples → ℕ → Option Spot
found_spot s index t k = sample_spot (reading_at t k) (searched_at s index t k)
