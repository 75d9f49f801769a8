-- What is entered for a zone, its mean and its judgement: document 02, P2, "For each zone the sum runs in sample order from the first
-- value". The sum is the library's addition of doubles, one rounding each, in this order and no other; it is no sum of real numbers.
use Rattle.std.specs.Prelude.{true, false, List, [], ◌∷◌, ℕ, ◌+◌, eqb, Float, pos, set}
use Rattle.std.specs.Float.{binary64}
use Rattle.std.specs.Float.Ieee.{add, div, lt, of_int}
use Rattle.ledger.specs.declared.Reading.{Reading}
use Rattle.ledger.specs.declared.Permit.{Permit}
use Rattle.ledger.specs.declared.Tally.{Tally}
use Rattle.ledger.specs.declared.Judgement.{Judgement}
use Rattle.ledger.specs.declared.Judgement.TheVariants.{NoMean, Within, Over}
use Rattle.ledger.specs.Readings.{nothing}

-- nothing is entered
abbrev pub none_entered : Tally
none_entered = record { count = 0; below = 0; sum = nothing }

-- one value more: the first is the sum, and each later one is added with one rounding
abbrev pub with_value : Tally → Float → ℕ → Tally
with_value t value below =
    record { count = t.count + 1; below = t.below + below; sum = elim (eqb t.count 0) [ true ↦ value | false ↦ add binary64 t.sum value ] }

-- one reading more: one below detection enters at its own limit and is counted; what was not taken enters nothing
abbrev pub enter : Tally → Reading → Tally
enter t Reading.NotTaken = t
enter t (Reading.Measured value) = with_value t value 0
enter t (Reading.BelowDetection limit) = with_value t limit 1
enter t Reading.Unknown = t

-- the readings of these samples entered, in this order
abbrev pub entering : (ℕ → Reading) → Tally → List ℕ → Tally
entering reading t [] = t
entering reading t (k ∷ ks) = entering reading (enter t (reading k)) ks

-- the mean: one division of the sum by the count
abbrev pub mean : Tally → Float
mean t = div binary64 t.sum (of_int binary64 (pos t.count))

-- a zone with nothing taken has no mean; the mean is over the line when it is greater than the limit
unfoldable pub judge : Permit → Tally → Judgement
judge p t = elim (eqb t.count 0) [ true ↦ NoMean | false ↦ elim (lt p.limit (mean t)) [ true ↦ Over (mean t) | false ↦ Within (mean t) ] ]

-- the word of a judgement: 0 no mean, 1 within, 2 over
abbrev pub judgement_word : Judgement → ℕ
judgement_word NoMean = 0
judgement_word (Within m) = 1
judgement_word (Over m) = 2

-- the mean of zone z written among lent ones; without a mean they are left as they were
abbrev pub write_mean : Judgement → List Float → ℕ → List Float
write_mean NoMean means z = means
write_mean (Within m) means z = set means z m
write_mean (Over m) means z = set means z m
