-- The loop's invariant: the numbers before i are written.
use Rattle.std.proofs.Common.{◌≡◌, List, ℕ, ◌+◌, ◌*◌, ◌/◌, ◌%◌, ◌<◌, get_or}
use Rattle.frames.specs.Lines.{number_at}
use Rattle.pages.proofs.page_tables.read_edges.Given as goal

-- number i of the lines
abbrev pub word : List ℕ → ℕ → ℕ → ℕ
word page at i = number_at page (at + 35 * (i / 4)) (i % 4)

abbrev pub invariant-loop-i : goal.invariant-loop-i
invariant-loop-i l = (j : ℕ) → j < l.i → get_or l.word-items j 0 ≡ word l.page l.at j
