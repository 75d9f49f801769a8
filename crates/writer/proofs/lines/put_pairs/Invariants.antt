-- The loop's invariant: the first i frames are written.
use Rattle.std.proofs.Common.{◌≡◌, ℕ, ◌<◌, ◌+◌, ◌*◌}
use lib.IntN.{pos}
use lib.ListN.{get_or}
use lib.Signed.{mag}
use Rattle.subdivision.specs.Limits.{origin}
use Rattle.subdivision.specs.Lists.{over}
use Rattle.frames.specs.Texts.{frames_text, pair_numbers}
use Rattle.writer.proofs.lines.put_pairs.Given as goal

abbrev pub invariant-loop-i : goal.invariant-loop-i
invariant-loop-i l = record { place : l.text.at ≡ l.initial.text.at + 19 * l.i; written : l.text.bytes.now ≡ over (frames_text l.kind (pair_numbers l.table) l.i) l.initial.text.bytes.now l.initial.text.at; same_text : l.text.bytes.ghost_name ≡ l.initial.text.bytes.ghost_name; fits : (k : ℕ) → k < 2 * l.i → mag (get_or l.table k (pos 0)) < origin }
