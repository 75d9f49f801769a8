-- The loop's invariant: the readings of the samples passed that lie in the zone are entered.
use Rattle.std.proofs.Common.{◌≡◌, ◌≤◌}
use Rattle.samples.specs.Room.{samples_in}
use Rattle.samples.specs.Zones.{tally_over}
use Rattle.samples.proofs.zones.tally_zone.Given as goal

abbrev pub invariant-loop-k : goal.invariant-loop-k
invariant-loop-k l = record {
  entered : l.tally ≡ tally_over (samples_in l.samples) l.numbers l.z l.k;
  few : l.tally.count ≤ l.k;
  fewer : l.tally.below ≤ l.k;
}
