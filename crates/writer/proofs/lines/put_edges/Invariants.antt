-- The loop's invariant: the first i frames are written.
use Rattle.std.proofs.Common.{◌≡◌, ◌+◌, ◌*◌}
use Rattle.subdivision.specs.Lists.{over}
use Rattle.frames.specs.Texts.{frames_text, edge_numbers}
use Rattle.writer.proofs.lines.put_edges.Given as goal

abbrev pub invariant-loop-i : goal.invariant-loop-i
invariant-loop-i l = record { place : l.text.at ≡ l.initial.text.at + 35 * l.i; written : l.text.bytes.now ≡ over (frames_text 2 (edge_numbers l.table) l.i) l.initial.text.bytes.now l.initial.text.at; same_text : l.text.bytes.ghost_name ≡ l.initial.text.bytes.ghost_name }
