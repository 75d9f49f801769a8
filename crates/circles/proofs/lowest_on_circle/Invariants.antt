-- The loop's invariant: none of the zones passed is on a circle.
use Rattle.std.proofs.Common.{◌≡◌, ◌<◌, ℕ, false}
use Rattle.subdivision.specs.Formula.{holds}
use Rattle.subdivision.specs.ZoneLine.{on_circle}
use Rattle.line.specs.Waiting.{zones_of}
use Rattle.circles.proofs.lowest_on_circle.Given as goal

abbrev pub invariant-loop-z : goal.invariant-loop-z
invariant-loop-z l = (k : ℕ) → k < l.z → holds (on_circle (zones_of l.edges l.zones) k) ≡ false
