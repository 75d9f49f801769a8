-- The loop's invariant: those queued are the ones there were, with the zones above the edges passed.
use Rattle.std.proofs.Common.{◌≡◌, take}
use Rattle.theory.proofs.Reached.{with_above}
use Rattle.circles.proofs.queue.Queue.spread.Given as goal

abbrev pub invariant-loop-e : goal.invariant-loop-e
invariant-loop-e l =
    take l.self.count l.self.zones ≡ with_above l.steps.groups.edges.now l.run (take l.initial.self.count l.initial.self.zones) l.e-index
