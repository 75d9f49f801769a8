-- The loop's invariant: the state and the array are reached by turns of the defined descent. The measure is how many turns are left.
use Rattle.std.proofs.Common.{[]}
use Rattle.theory.proofs.Descents.{turns_left}
use Rattle.descent.specs.Steps.{state_of}
use Rattle.descent.proofs.Descending.{ReachedIn}
use Rattle.descent.proofs.descend.Given as goal

abbrev pub invariant-loop-d : goal.invariant-loop-d
invariant-loop-d l = ReachedIn l.query l.d l.trail

abbrev pub decreases-loop-d : goal.decreases-loop-d
decreases-loop-d l = turns_left (state_of l.d [])
