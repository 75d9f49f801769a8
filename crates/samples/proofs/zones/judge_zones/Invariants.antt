-- The loop's invariant: the zones passed are judged, their words and means written.
use Rattle.std.proofs.Common.{◌≡◌}
use Rattle.subdivision.specs.Lists.{put}
use Rattle.samples.specs.Room.{samples_in}
use Rattle.samples.specs.Zones.{words_by, means_by}
use Rattle.samples.proofs.zones.judge_zones.Given as goal

abbrev pub invariant-loop-z : goal.invariant-loop-z
invariant-loop-z l = record {
  words : l.results ≡ put (words_by (samples_in l.samples) l.places l.permits.words.now l.z) l.initial.results;
  means : l.means ≡ means_by (samples_in l.samples) l.places l.permits.words.now l.initial.means l.z;
}
