use Rattle.std.proofs.Common.{List, ◌∷◌, ℕ, suc, ◌-◌, ◌<◌, ◌≤◌, get_or, take, drop, slice_range}
use lib.Seq.{drop-cons}
use mathlib.Core.Path.{◌≡◌, refl, ap, ◌∙◌}
use Prim.Native.Nat.{◌+◌, ◌*◌}
use native.Mathlib.Omega.{arith}
use lib.ListN.{length}
use Rattle.subdivision.specs.Lists.{over}
use Rattle.frames.specs.Texts.{frame_text, edge_numbers}
use Rattle.framing.proofs.WrittenFrames.{frames_next}
use Rattle.writer.proofs.lines.put_edges.Goals as goal

-- what is left of a list from one place on is the entry there and what is left past it
left_from : (l : List ℕ) (j k : ℕ) → k ≡ suc j → j < length l → drop j l ≡ get_or l j 0 ∷ drop k l
left_from l j k e h = rw e (drop-cons l j 0 h)

-- the four numbers of an edge are a part of its table
four_numbers : (table : List ℕ) (i : ℕ) → 4 * i + 4 ≤ length table → slice_range table (4 * i) (4 * i + 4) ≡ edge_numbers table i
four_numbers table i h =
    let j = 4 * i in
    let four : 4 * i + 4 - 4 * i ≡ 4 = omega arith in
    rw four (
    ap (take 4) (left_from table j (j + 1) (omega arith) (omega arith))
    ∙ ap (λ r. get_or table j 0 ∷ take 3 r) (left_from table (j + 1) (j + 2) (omega arith) (omega arith))
    ∙ ap (λ r. get_or table j 0 ∷ get_or table (j + 1) 0 ∷ take 2 r) (left_from table (j + 2) (j + 3) (omega arith) (omega arith))
    ∙ ap (λ r. get_or table j 0 ∷ get_or table (j + 1) 0 ∷ get_or table (j + 2) 0 ∷ take 1 r) (left_from table (j + 3) (j + 4) (omega arith) (omega arith))
    )

pub loop-i-preserved : goal.loop-i-preserved
loop-i-preserved c =
    let l = c.loop-i in
    let a = c.args in
    let t = a.text.now in
    record {
      place = omega (arith, c.put_frame.ensures.value, l.invariant.place);
      written = c.put_frame.ensures.text_after
          ∙ (λ i. over (frame_text 2 (four_numbers a.table.now l.i (omega arith) i)) (l.invariant.written i) (l.invariant.place i))
          ∙ frames_next 2 4 (edge_numbers a.table.now) (λ i. refl) t.bytes.now t.at (t.at + 35 * l.i) l.i (omega arith) refl;
      same_text = c.put_frame.ensures.same_text ∙ l.invariant.same_text;
    }
