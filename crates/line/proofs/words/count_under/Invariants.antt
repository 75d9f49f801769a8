-- The loop's invariant: the words are the count of the edges passed.
use Rattle.std.proofs.Common.{◌≡◌, length, take}
use Rattle.line.specs.Waiting.{counted}
use Rattle.line.proofs.words.count_under.Given as goal

abbrev pub invariant-loop-e : goal.invariant-loop-e
invariant-loop-e l = l.waits ≡ counted l.edges (take l.e-index l.order) (length l.initial.waits)
