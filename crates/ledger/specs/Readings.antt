-- Readings and permits: document 02, P2, "A sample is a point and a reading" and "All values are 64-bit floats". Floats are IEEE 754's
-- doubles, and their tests are the library's: every test of not-a-number fails.
use Rattle.std.specs.Prelude.{Bool, true, false, List, ℕ, ◌+◌, ◌*◌, eqb, Float, get_or}
use Rattle.std.specs.Float.{nan, binary64}
use Rattle.std.specs.Float.Ieee.{lt, le, of_bits}
use Rattle.subdivision.specs.Formula.{Formula, is_equal, both}
use Rattle.ledger.specs.declared.Reading.{Reading}
use Rattle.ledger.specs.declared.Permit.{Permit}

-- a test as a formula: it is so exactly when the test passes
abbrev pub passes : Bool → Formula
passes b = is_equal (elim b [ true ↦ 1 | false ↦ 0 ]) 1

-- 0 mg/L
abbrev pub nothing : Float
nothing = of_bits binary64 0

-- 1,000 mg/L
abbrev pub most : Float
most = of_bits binary64 0x408f_4000_0000_0000

-- a value is greater than 0 and at most 1,000 mg/L
unfoldable pub in_range : Float → Bool
in_range v = elim (lt nothing v) [ true ↦ le v most | false ↦ false ]

-- the reading of a lent kind and value: 0 not taken, 1 measured, 2 below detection
unfoldable pub reading_of : ℕ → Float → Reading
reading_of kind value =
    elim (eqb kind 0) [
      | true ↦ Reading.NotTaken
      | false ↦
          elim (eqb kind 1) [
            | true ↦ Reading.Measured value
            | false ↦ elim (eqb kind 2) [ true ↦ Reading.BelowDetection value | false ↦ Reading.Unknown ]
          ]
    ]

-- a reading was taken: measured, or below detection
abbrev pub taken : Reading → Bool
taken Reading.NotTaken = false
taken (Reading.Measured value) = true
taken (Reading.BelowDetection limit) = true
taken Reading.Unknown = false

-- what a reading that was taken enters at: its value, or its own detection limit
abbrev pub enters_at : Reading → Float
enters_at Reading.NotTaken = nan
enters_at (Reading.Measured value) = value
enters_at (Reading.BelowDetection limit) = limit
enters_at Reading.Unknown = nan

-- 40 is not given for this reading: it is one of the three, and the value or the limit that it carries is in range
abbrev pub reading_sound : Reading → Bool
reading_sound Reading.NotTaken = true
reading_sound (Reading.Measured value) = in_range value
reading_sound (Reading.BelowDetection limit) = in_range limit
reading_sound Reading.Unknown = false

-- the permit of zone z: its limit, then its floor
abbrev pub permit_of : List Float → ℕ → Permit
permit_of permits z = record { limit = get_or permits (2 * z) nan; floor = get_or permits (2 * z + 1) nan }

-- 42 is not given for this permit: its limit and its floor are in the same range
abbrev pub permit_sound : Permit → Formula
permit_sound p = both (passes (in_range p.limit)) (passes (in_range p.floor))
