-- The loop's invariant: each place below k holds the number of its sample's zone.
use Rattle.std.proofs.Common.{◌≡◌, ℕ, ◌<◌, get_or}
use Rattle.samples.specs.declared.Spot.{Spot}
use Rattle.samples.specs.Spots.{zone_number}
use Rattle.samples.proofs.zones.number_zones.Given as goal

abbrev pub invariant-loop-k : goal.invariant-loop-k
invariant-loop-k l = (i : ℕ) → i < l.k → get_or l.numbers i 0 ≡ zone_number (get_or l.places i Spot.Untaken)
