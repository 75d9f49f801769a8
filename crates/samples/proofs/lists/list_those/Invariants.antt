-- The loop's invariant: the numbers of the samples passed that lie at the spot are written.
use Rattle.std.proofs.Common.{◌≡◌, ◌≤◌, length}
use Rattle.subdivision.specs.Lists.{put}
use Rattle.ledger.specs.Months.{those}
use Rattle.samples.specs.Spots.{lies_at}
use Rattle.samples.proofs.lists.list_those.Given as goal

abbrev pub invariant-loop-k : goal.invariant-loop-k
invariant-loop-k l = record {
  few : l.count ≤ l.k;
  counted : l.count ≡ length (those (lies_at l.places l.spot) l.k);
  written : l.list ≡ put (those (lies_at l.places l.spot) l.k) l.initial.list;
}
