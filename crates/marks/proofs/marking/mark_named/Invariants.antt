-- The loop's invariant: the marks of what the edges passed name are set.
use mathlib.Core.Path.{◌≡◌}
use Rattle.marks.specs.Marks.{marked}
use Rattle.marks.proofs.marking.mark_named.Given as goal

abbrev pub invariant-loop-e : goal.invariant-loop-e
invariant-loop-e l = l.marks ≡ marked l.edges l.at l.e l.initial.marks
