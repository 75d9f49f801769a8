-- The head, the vertices, the edges and the points are written one after the other.
use mathlib.Core.Path.{◌≡◌, refl, sym, ap, ◌∙◌}
use mathlib.Core.List.{List, [], ◌∷◌}
use Prim.Native.Nat.{ℕ, ◌+◌, ◌*◌, ◌/◌, ◌%◌, ◌<◌, ◌≤◌}
use native.Mathlib.Nat.{zero-lt-suc}
use native.Mathlib.Decide.{dec_lt}
use native.Mathlib.Omega.{arith}
use lib.IntN.{ℤ, pos}
use lib.ListN.{length, get_or, get_or-eq_default}
use lib.Signed.{mag}
use mir.Syntax.{w32}
use mir.Val.{to_z, of_z}
use Rattle.subdivision.specs.Limits.{origin}
use Rattle.subdivision.specs.Lists.{over}
use Rattle.tables.specs.Lent.{lent}
use Rattle.std.proofs.Common.{rules}
use Rattle.frames.specs.Digits.{word_of}
use Rattle.frames.specs.Texts.{frame_text, frames_text, pair_numbers, edge_numbers, head_numbers, page_text}
use Rattle.theory.proofs.Written.{four_over, length_over}
use Rattle.framing.proofs.WrittenFrames.{frames_within}
use Rattle.framing.proofs.FrameLengths.{frame_long, frames_long, text_length}
use Rattle.writer.proofs.put_page.Goals as goal

-- the words of a whole table fit where the words of its pairs do, and past its end there is no other
in_range_lem : (table : List ℤ) → length table % 2 ≡ 0 → ((k : ℕ) → k < 2 * (length table / 2) → mag (get_or table k (pos 0)) < origin)
    → (k : ℕ) → mag (get_or table k (pos 0)) < origin
in_range_lem table e f k = go (dec_lt k (length table))
  where
    go : Dec (k < length table) → mag (get_or table k (pos 0)) < origin
    go (yes l) = f k (omega arith)
    go (no l) = let past : length table ≤ k = omega (arith, l) in rw (get_or-eq_default table (pos 0) past) (zero-lt-suc 2147483647)

-- a text with room is as long after its head was written
headed : (numbers lent after : List ℕ) → after ≡ over (frame_text 0 numbers) lent 0 → length numbers ≡ 5 → 43 ≤ length lent → length after ≡ length lent
headed numbers lent after e five room = ap length e ∙ length_over (frame_text 0 numbers) lent 0 (omega (arith, frame_long 0 numbers))

-- and after frames were written
framed : (kind n count at : ℕ) (numbers : ℕ → List ℕ) (lent after : List ℕ) → ((i : ℕ) → length (numbers i) ≡ n)
    → after ≡ over (frames_text kind numbers count) lent at → at + (3 + 8 * n) * count ≤ length lent → length after ≡ length lent
framed kind n count at numbers lent after long e room = ap length e ∙ frames_within kind n numbers long lent at count room

pub put_frame-requires : goal.put_frame-requires
put_frame-requires c = (omega arith, omega (arith, text_length (lent c.args.sheet) c.args.points.now))

pub put_pairs-requires : goal.put_pairs-requires
put_pairs-requires c =
    let f = c.put_frame in
    let room = text_length (lent c.args.sheet) c.args.points.now in
    let head = headed (c.word_of.result ∷ c.word_of-2.result ∷ c.vertex_count-v.result ∷ c.edge_count-m.result ∷ c.args.sheet.zones ∷ []) c.args.text.now f.new.text.bytes.now f.ensures.text_after refl (omega (arith, room)) in
    (omega arith, omega (arith, room, f.ensures.value, head))

pub put_edges-requires : goal.put_edges-requires
put_edges-requires c =
    let s = lent c.args.sheet in
    let f = c.put_frame in
    let p = c.put_pairs in
    let room = text_length s c.args.points.now in
    let head = headed (c.word_of.result ∷ c.word_of-2.result ∷ c.vertex_count-v.result ∷ c.edge_count-m.result ∷ c.args.sheet.zones ∷ []) c.args.text.now f.new.text.bytes.now f.ensures.text_after refl (omega (arith, room)) in
    let vertices = framed 1 2 (length s.vertices / 2) f.new.text.at (pair_numbers s.vertices) f.new.text.bytes.now p.new.text.bytes.now (λ i. refl) p.ensures.text_after (omega (arith, room, f.ensures.value, head)) in
    omega (arith, room, f.ensures.value, p.ensures.value, head, vertices)

pub put_pairs-requires-2 : goal.put_pairs-requires-2
put_pairs-requires-2 c =
    let s = lent c.args.sheet in
    let f = c.put_frame in
    let p = c.put_pairs in
    let e = c.put_edges in
    let room = text_length s c.args.points.now in
    let head = headed (c.word_of.result ∷ c.word_of-2.result ∷ c.vertex_count-v.result ∷ c.edge_count-m.result ∷ c.args.sheet.zones ∷ []) c.args.text.now f.new.text.bytes.now f.ensures.text_after refl (omega (arith, room)) in
    let vertices = framed 1 2 (length s.vertices / 2) f.new.text.at (pair_numbers s.vertices) f.new.text.bytes.now p.new.text.bytes.now (λ i. refl) p.ensures.text_after (omega (arith, room, f.ensures.value, head)) in
    let edges = framed 2 4 (length s.edges / 4) p.new.text.at (edge_numbers s.edges) p.new.text.bytes.now e.new.text.bytes.now (λ i. refl) e.ensures.text_after (omega (arith, room, f.ensures.value, p.ensures.value, head, vertices)) in
    (omega arith, omega (arith, room, f.ensures.value, p.ensures.value, e.ensures.value, head, vertices, edges))

pub returns-clause-value : goal.returns-clause-value
returns-clause-value c =
    omega (arith, text_length (lent c.args.sheet) c.args.points.now, c.put_frame.ensures.value, c.put_pairs.ensures.value, c.put_edges.ensures.value, c.put_pairs-2.ensures.value)

pub returns-clause-text_after : goal.returns-clause-text_after
unfolding page_text
returns-clause-text_after c =
    let a = c.args in
    let s = lent a.sheet in
    let f = c.put_frame in
    let p = c.put_pairs in
    let e = c.put_edges in
    let head = frame_text 0 (head_numbers s []) in
    let vertices = frames_text 1 (pair_numbers s.vertices) (length s.vertices / 2) in
    let edges = frames_text 2 (edge_numbers s.edges) (length s.edges / 4) in
    let points = frames_text 3 (pair_numbers a.points.now) (length a.points.now / 2) in
    let west : c.word_of.result ≡ word_of s.west = c.word_of.ensures ∙ (let same : to_z w32 (of_z w32 s.west) ≡ s.west = search rules in ap word_of same) in
    let east : c.word_of-2.result ≡ word_of s.east = c.word_of-2.ensures ∙ (let same : to_z w32 (of_z w32 s.east) ≡ s.east = search rules in ap word_of same) in
    let first = f.ensures.text_after ∙ (λ i. over (frame_text 0 (west i ∷ east i ∷ c.vertex_count-v.ensures i ∷ c.edge_count-m.ensures i ∷ s.zones ∷ [])) a.text.now 0) in
    let second = p.ensures.text_after ∙ ap (λ t. over vertices t f.new.text.at) first in
    let third = e.ensures.text_after ∙ ap (λ t. over edges t p.new.text.at) second in
    search rules ∙ c.put_pairs-2.ensures.text_after ∙ ap (λ t. over points t e.new.text.at) third
    ∙ four_over head vertices edges points a.text.now f.new.text.at p.new.text.at e.new.text.at
    (f.ensures.value ∙ sym (frame_long 0 (head_numbers s [])))
    (omega (arith, p.ensures.value, frames_long 1 2 (pair_numbers s.vertices) (λ i. refl) (length s.vertices / 2)))
    (omega (arith, e.ensures.value, frames_long 2 4 (edge_numbers s.edges) (λ i. refl) (length s.edges / 4)))

pub returns-clause-words_fit : goal.returns-clause-words_fit
returns-clause-words_fit c = record {
  west = search rules;
  east = search rules;
  vertices = in_range_lem c.args.sheet.tables.vertices.now c.requires.means.0.0.0 c.put_pairs.ensures.by_index;
  edges = c.put_edges.ensures.fits;
  points = in_range_lem c.args.points.now c.requires.means.1 c.put_pairs-2.ensures.by_index;
}
