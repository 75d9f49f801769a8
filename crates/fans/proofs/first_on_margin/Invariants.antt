-- The loop's invariant: `least` is the least vertex at fault over the places before i - 1.
use Rattle.std.proofs.Common.{◌≡◌, ◌-◌, length}
use Rattle.subdivision.specs.Lowest.{found}
use Rattle.fans.proofs.MarginSteps.{least_fault}
use Rattle.fans.proofs.first_on_margin.Given as goal

abbrev pub invariant-loop-i : goal.invariant-loop-i
invariant-loop-i l =
    l.least ≡ found (length l.points) (least_fault l.west l.sides.tables.vertices.now l.sides.tables.edges.now l.points (length l.points) (l.i - 1))
