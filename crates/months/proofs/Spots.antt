-- Where an answer puts a sample tells what the answer does, of answers that a search may give once its limits are kept.
use mathlib.Core.Path.{◌≡◌, refl, ap}
use mathlib.Core.Bool.{Bool, true, false}
use mathlib.Core.List.{List}
use mathlib.Core.Logic.{◌⊎◌, inl, inr}
use Prim.Native.Nat.{ℕ, ◌<◌}
use borrow.Author.Tests.{lt-ltb}
use lib.Dec.{eqb}
use lib.Ieee.{Float, lt}
use Rattle.std.specs.Prelude.{Option, Some, None, Ok, Err}
use Rattle.subdivision.specs.Results.{Reply, refused}
use Rattle.subdivision.specs.declared.Answer.{Answer}
use Rattle.ledger.specs.declared.Reading.{Reading}
use Rattle.ledger.specs.Readings.{permit_of}
use Rattle.ledger.specs.Months.{in_zone, on_boundary, off_sheet, damaged, above_floor, too_coarse}
use Rattle.samples.specs.declared.Spot.{Spot}
use Rattle.samples.specs.Spots.{answer_spot, sample_spot, nowhere, spot_in, same_spot, coarse}

-- an answer with a zone of the sheet, or no refusal but 20 and 22
abbrev pub Fair : ℕ → Reply → Type 0
Fair n a = ((z : ℕ) → a ≡ Ok (Answer.Zone z) → z < n) × ((number item : ℕ) → a ≡ refused number item → (number ≡ 20) ⊎ (number ≡ 22))

-- off the sheet, or nowhere
abbrev refused_spot : Bool → Option Spot
refused_spot b = elim b [ true ↦ Some Spot.OffSheet | false ↦ None ]

-- in zone z
pub zone_spot : (z : ℕ) (a : Reply) → same_spot (spot_in (answer_spot a)) (Spot.Zone z) ≡ in_zone z a
zone_spot z (Ok (Answer.Vertex v)) = refl
zone_spot z (Ok (Answer.Edge e)) = refl
zone_spot z (Ok (Answer.Zone y)) = refl
zone_spot z (Err e) = go (eqb e.number 20)
  where
    go : (b : Bool) → same_spot (spot_in (refused_spot b)) (Spot.Zone z) ≡ false
    go true = refl
    go false = refl

-- on a boundary
pub boundary_spot : (a : Reply) → same_spot (spot_in (answer_spot a)) Spot.Boundary ≡ on_boundary a
boundary_spot (Ok (Answer.Vertex v)) = refl
boundary_spot (Ok (Answer.Edge e)) = refl
boundary_spot (Ok (Answer.Zone y)) = refl
boundary_spot (Err e) = go (eqb e.number 20)
  where
    go : (b : Bool) → same_spot (spot_in (refused_spot b)) Spot.Boundary ≡ false
    go true = refl
    go false = refl

-- off the sheet
pub off_spot : (a : Reply) → same_spot (spot_in (answer_spot a)) Spot.OffSheet ≡ off_sheet a
off_spot (Ok (Answer.Vertex v)) = refl
off_spot (Ok (Answer.Edge e)) = refl
off_spot (Ok (Answer.Zone y)) = refl
off_spot (Err e) = go (eqb e.number 20)
  where
    go : (b : Bool) → same_spot (spot_in (refused_spot b)) Spot.OffSheet ≡ b
    go true = refl
    go false = refl

-- what 22 refuses is nowhere
pub damaged_spot : (n : ℕ) (a : Reply) → Fair n a → nowhere (answer_spot a) ≡ damaged a
damaged_spot n (Ok (Answer.Vertex v)) f = refl
damaged_spot n (Ok (Answer.Edge e)) f = refl
damaged_spot n (Ok (Answer.Zone z)) f = refl
damaged_spot n (Err e) f = go (f.1 e.number e.item refl)
  where
    go : (e.number ≡ 20) ⊎ (e.number ≡ 22) → nowhere (refused_spot (eqb e.number 20)) ≡ eqb e.number 22
    go (inl h) = rw h refl
    go (inr h) = rw h refl

-- only a zone has a floor
floor_spot : (n : ℕ) (permits : List Float) (limit : Float) (a : Reply) → Fair n a
    → coarse permits n (Reading.BelowDetection limit) (spot_in (answer_spot a)) ≡ above_floor permits limit a
floor_spot n permits limit (Ok (Answer.Vertex v)) f = refl
floor_spot n permits limit (Ok (Answer.Edge e)) f = refl
floor_spot n permits limit (Ok (Answer.Zone z)) f =
    ap (λ (b : Bool). elim b [ true ↦ lt (permit_of permits z).floor limit | false ↦ false ]) (lt-ltb z n (f.0 z refl))
floor_spot n permits limit (Err e) f = go (eqb e.number 20)
  where
    go : (b : Bool) → coarse permits n (Reading.BelowDetection limit) (spot_in (refused_spot b)) ≡ false
    go true = refl
    go false = refl

-- a reading is too coarse where it lies as by its answer
pub coarse_spot : (n : ℕ) (permits : List Float) (r : Reading) (a : Reply) → Fair n a → coarse permits n r (spot_in (sample_spot r a)) ≡ too_coarse permits r a
coarse_spot n permits Reading.NotTaken a f = refl
coarse_spot n permits (Reading.Measured value) a f = refl
coarse_spot n permits (Reading.BelowDetection limit) a f = floor_spot n permits limit a f
coarse_spot n permits Reading.Unknown a f = refl

-- a sample that is not taken lies at no other spot, and one that is lies where its answer says
pub taken_spot : (b : Bool) (a : Reply) (s : Spot) (v : Bool) → same_spot Spot.Untaken s ≡ false → same_spot (spot_in (answer_spot a)) s ≡ v
    → same_spot (spot_in (elim b [ true ↦ answer_spot a | false ↦ Some Spot.Untaken ])) s ≡ elim b [ true ↦ v | false ↦ false ]
taken_spot true a s v other e = e
taken_spot false a s v other e = other

-- a sample that is not taken is not nowhere
pub taken_nowhere : (b : Bool) (a : Reply) (v : Bool) → nowhere (answer_spot a) ≡ v
    → nowhere (elim b [ true ↦ answer_spot a | false ↦ Some Spot.Untaken ]) ≡ elim b [ true ↦ v | false ↦ false ]
taken_nowhere true a v e = e
taken_nowhere false a v e = refl
