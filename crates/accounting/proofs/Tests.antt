-- Tests of floats as formulas.
use mathlib.Core.Path.{◌≡◌, refl, sym, ◌∙◌}
use mathlib.Core.Bool.{Bool, true, false, not}
use Rattle.subdivision.specs.Formula.{both, holds, Means}
use Rattle.ledger.specs.Readings.{passes}
use Rattle.theory.proofs.Decide.{held}

-- a test as a formula is computed as the test
pub passes_holds : (b : Bool) → holds (passes b) ≡ b
passes_holds true = refl
passes_holds false = refl

-- it is so only where the test passes
pub passes_means : (b : Bool) → Means (passes b) → b ≡ true
passes_means b m = sym (passes_holds b) ∙ held (passes b) m

-- two tests, the second where the first passes
pub both_tests : (a b : Bool) → holds (both (passes a) (passes b)) ≡ elim a [ true ↦ b | false ↦ false ]
both_tests true b = passes_holds b
both_tests false b = refl

-- a test that is not to pass, as a clause that is broken
pub not_passes : (b : Bool) → not (holds (passes (not b))) ≡ b
not_passes true = refl
not_passes false = refl
