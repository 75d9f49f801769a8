-- Two wrong ledgers, each told apart from the one defined: samples entered from the last to the first, and a reading below detection entered at the floor.
use Rattle.std.specs.Prelude.{◌≡◌, refl, true, false, List, [], ◌∷◌, ℕ, Float, Ok, Err}
use Rattle.std.proofs.Common.{sym, ap, ◌∙◌, subst, true≢false}
use Rattle.std.specs.Float.Ieee.{add, div, eq, of_int, of_bits}
use Rattle.subdivision.specs.Results.{Reply, refused, reply_of}
use Rattle.subdivision.specs.Dyadic.{bits, top_bit, low_bit, lca}
use Rattle.subdivision.specs.Lowest.{lowest}
use Rattle.subdivision.specs.Descent.{descent, index_descent}
use Rattle.subdivision.specs.Calls.{searching}
use Rattle.subdivision.specs.WorkedTable.{lens, lens_index}
use Rattle.ledger.specs.declared.Reading.{Reading}
use Rattle.ledger.specs.declared.Tally.{Tally}
use Rattle.ledger.specs.Readings.{reading_of}
use Rattle.ledger.specs.Tallies.{none_entered, with_value, enter, mean}
use Rattle.ledger.specs.Months.{reading_at, tally_of, searched_at}
use Rattle.ledger.specs.WorkedMonths.{two_tenths, three_tenths, samples}

-- floats of which a test says that they differ are two
differs : (x y : Float) → eq x y ≡ false → eq y y ≡ true → x ≡ y → ⊥
differs x y e f p = true≢false (sym f ∙ subst (λ q. eq q y ≡ false) p e)

-- samples entered from the last to the first
abbrev entering_backwards : (ℕ → Reading) → Tally → List ℕ → Tally
entering_backwards reading t [] = t
entering_backwards reading t (k ∷ ks) = enter (entering_backwards reading t ks) (reading k)

-- a ledger that adds in reverse order gives another mean for zone 1 of the worked month
pub reverse_breaks : entering_backwards (reading_at samples) none_entered (0 ∷ 2 ∷ 6 ∷ []) ≡ tally_of (searched_at lens lens_index samples) samples 1 → ⊥
unfolding samples lens lens_index searched_at searching descent index_descent bits top_bit low_bit lca lowest reading_of add div eq of_int of_bits
reverse_breaks p =
    differs (mean (entering_backwards (reading_at samples) none_entered (0 ∷ 2 ∷ 6 ∷ []))) (mean (tally_of (searched_at lens lens_index samples) samples 1)) refl refl (ap mean p)

-- a reading below detection entered at its zone's floor
abbrev enter_at_floor : Float → Tally → Reading → Tally
enter_at_floor floor t Reading.NotTaken = t
enter_at_floor floor t (Reading.Measured value) = with_value t value 0
enter_at_floor floor t (Reading.BelowDetection limit) = with_value t floor 1
enter_at_floor floor t Reading.Unknown = t

-- a ledger that enters it so gives another sum, where the floor is above the limit
pub floor_breaks : enter_at_floor three_tenths none_entered (Reading.BelowDetection two_tenths) ≡ enter none_entered (Reading.BelowDetection two_tenths) → ⊥
unfolding eq of_bits
floor_breaks p = differs three_tenths two_tenths refl refl (ap (λ t. t.sum) p)
