-- The loop's invariant: the numbers before i are written.
use Rattle.std.proofs.Common.{◌≡◌, List, ℕ, ℤ, pos, ◌+◌, ◌*◌, ◌/◌, ◌%◌, ◌<◌, get_or}
use Rattle.frames.specs.Digits.{signed_of}
use Rattle.frames.specs.Lines.{number_at}
use Rattle.pages.proofs.page_tables.read_pairs.Given as goal

-- number i of the lines
abbrev pub word : List ℕ → ℕ → ℕ → ℤ
word page at i = signed_of (number_at page (at + 19 * (i / 2)) (i % 2))

abbrev pub invariant-loop-i : goal.invariant-loop-i
invariant-loop-i l = (j : ℕ) → j < l.i → get_or l.word-items j (pos 0) ≡ word l.page l.at j
