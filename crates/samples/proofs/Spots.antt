-- The derived equality of spots is the test of the definitions, and so is that of the numbers of their zones.
use Rattle.std.proofs.Common.{◌≡◌, ◌<◌, refl, arith, ℕ, List, get_or}
use Rattle.samples.specs.declared.Spot.{Spot}
use Rattle.samples.specs.contracts.SpotPartialEq.TheImpl.{ghosts}
use Rattle.std.specs.Prelude.{eqb}
use Rattle.std.proofs.lemmas.Bool.{ne_eqb}
use Rattle.samples.specs.Spots.{same_spot, lies_at, zone_number}

eq_is : (s t : Spot) → ghosts.eq s t ≡ same_spot s t
eq_is Spot.Untaken Spot.Untaken = refl
eq_is Spot.Untaken Spot.Boundary = refl
eq_is Spot.Untaken Spot.OffSheet = refl
eq_is Spot.Untaken (Spot.Zone z) = refl
eq_is Spot.Boundary Spot.Untaken = refl
eq_is Spot.Boundary Spot.Boundary = refl
eq_is Spot.Boundary Spot.OffSheet = refl
eq_is Spot.Boundary (Spot.Zone z) = refl
eq_is Spot.OffSheet Spot.Untaken = refl
eq_is Spot.OffSheet Spot.Boundary = refl
eq_is Spot.OffSheet Spot.OffSheet = refl
eq_is Spot.OffSheet (Spot.Zone z) = refl
eq_is (Spot.Zone y) Spot.Untaken = refl
eq_is (Spot.Zone y) Spot.Boundary = refl
eq_is (Spot.Zone y) Spot.OffSheet = refl
eq_is (Spot.Zone y) (Spot.Zone z) = refl

-- so it tests where a sample lies
pub lies_is : (places : List Spot) (s : Spot) (k : ℕ) → ghosts.eq (get_or places k Spot.Untaken) s ≡ lies_at places s k
lies_is places s k = eq_is (get_or places k Spot.Untaken) s

-- a spot is a zone's where it has the zone's number, which is below the number that no zone has
pub number_is : (s : Spot) (z : ℕ) → z < 4294967295 → eqb (zone_number s) z ≡ same_spot s (Spot.Zone z)
number_is Spot.Untaken z h = ne_eqb 4294967295 z (λ e. omega arith)
number_is Spot.Boundary z h = ne_eqb 4294967295 z (λ e. omega arith)
number_is Spot.OffSheet z h = ne_eqb 4294967295 z (λ e. omega arith)
number_is (Spot.Zone y) z h = refl
