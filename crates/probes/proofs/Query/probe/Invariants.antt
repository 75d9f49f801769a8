-- The loop's invariant: the probes that are left find what all of them find, and no more are made than entries are left. The measure is how many are left.
use Rattle.std.proofs.Common.{◌+◌, ◌-◌, ◌≤◌}
use Rattle.subdivision.specs.Descent.{probe}
use Rattle.probes.specs.Asked.{asked, looked_up}
use Rattle.probes.proofs.Looks.{Probing}
use Rattle.probes.proofs.Query.probe.Given as goal

abbrev pub invariant-loop-lo : goal.invariant-loop-lo
invariant-loop-lo l =
    ((l.hi ≤ l.to) × (l.probes + (l.hi - l.lo) ≤ l.made + l.to))
    × Probing l.self (probe (asked l.self) (looked_up l.self) l.self.x l.to l.from l.to l.made) l.lo l.hi l.probes

abbrev pub decreases-loop-lo : goal.decreases-loop-lo
decreases-loop-lo l = l.hi - l.lo
