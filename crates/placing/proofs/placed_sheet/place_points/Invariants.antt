-- The loop's invariant: the lines of the first i points are written, each of at most 30 bytes.
use Rattle.std.proofs.Common.{◌≡◌, ◌*◌, ◌≤◌, length}
use Rattle.subdivision.specs.Lists.{put}
use Rattle.frames.specs.Placing.{answers_text}
use Rattle.tables.specs.Lent.{lent}
use Rattle.placing.proofs.placed_sheet.place_points.Given as goal

abbrev pub invariant-loop-i : goal.invariant-loop-i
invariant-loop-i l = record { long : l.lines.at ≡ length (answers_text (lent l.sheet) l.points l.i); short : l.lines.at ≤ 30 * l.i; written : l.lines.bytes.now ≡ put (answers_text (lent l.sheet) l.points l.i) l.initial.lines.bytes.now; same_text : l.lines.bytes.ghost_name ≡ l.initial.lines.bytes.ghost_name }
