-- The loop's invariant: the line so far, `Placing`.
use Rattle.std.proofs.Common.{length}
use Rattle.line.proofs.Placing.{Placing}
use Rattle.line.proofs.place_zones.Given as goal

abbrev pub invariant-loop-placed : goal.invariant-loop-placed
invariant-loop-placed l = Placing l.groups.edges.now l.groups.order.now l.initial.line (length l.initial.waits) l.line l.waits l.placed l.cursor
