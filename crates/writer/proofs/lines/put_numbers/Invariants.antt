-- The loop's invariant: the first n-index numbers are written.
use Rattle.std.proofs.Common.{◌≡◌, ◌+◌, ◌*◌}
use lib.ListN.{take}
use Rattle.subdivision.specs.Lists.{over}
use Rattle.frames.specs.Texts.{numbers_text}
use Rattle.writer.proofs.lines.put_numbers.Given as goal

abbrev pub invariant-loop-n : goal.invariant-loop-n
invariant-loop-n l = record { place : l.text.at ≡ l.initial.text.at + 8 * l.n-index; written : l.text.bytes.now ≡ over (numbers_text (take l.n-index l.numbers)) l.initial.text.bytes.now l.initial.text.at; same_text : l.text.bytes.ghost_name ≡ l.initial.text.bytes.ghost_name }
