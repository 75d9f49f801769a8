-- The loop's invariant: the edges passed are taken off the words, and below the cursor no word has become 1.
use Rattle.std.proofs.Common.{◌≡◌, ◌<◌, ◌≤◌, ℕ, get_or, take}
use Rattle.line.specs.Waiting.{lowered}
use Rattle.line.proofs.words.release.Given as goal

abbrev pub invariant-loop-e : goal.invariant-loop-e
invariant-loop-e l =
    (l.waits ≡ lowered l.edges (take l.e-index l.run) l.initial.waits) × (l.low ≤ l.cursor) × ((z : ℕ) → z < l.low → get_or l.waits z 0 ≡ 1 → get_or l.initial.waits z 0 ≡ 1)
