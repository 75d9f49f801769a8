-- The loop's invariant: those queued are reached from the zone, and the steps of those before the head are taken. The measure is how many
-- zones are not passed by the head.
use Rattle.std.proofs.Common.{◌-◌, take}
use Rattle.circles.proofs.Walked.{Walked}
use Rattle.circles.proofs.on_circle.Given as goal

abbrev pub invariant-loop-head : goal.invariant-loop-head
invariant-loop-head l =
    Walked l.steps.groups.edges.now l.steps.groups.zones l.steps.named l.zone (take l.queue.count l.queue.zones) l.head

abbrev pub decreases-loop-head : goal.decreases-loop-head
decreases-loop-head l = l.steps.groups.zones - l.head
