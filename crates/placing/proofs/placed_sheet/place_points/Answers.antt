use Rattle.std.proofs.Common.{◌≡◌, ◌++◌, ◌+◌, ◌*◌, add-one, arith, ap, ◌∙◌, length, get_or, pos, length-append}
use borrow.Author.Rules.{sfits_of}
use mir.Syntax.{w32}
use mir.Facts.{to_z-of_z}
use Rattle.subdivision.specs.Lists.{put, over}
use Rattle.subdivision.specs.Calls.{reading}
use Rattle.frames.specs.Placing.{answer_text, answers_text}
use Rattle.tables.specs.Lent.{lent}
use Rattle.theory.proofs.Written.{put_more}
use Rattle.placing.proofs.placed_sheet.place_points.Goals as goal

pub loop-i-preserved : goal.loop-i-preserved
loop-i-preserved c =
    let a = c.args in
    let l = c.loop-i in
    let p = c.put_reply in
    let s = lent a.sheet in
    let x = to_z-of_z {w = w32} {z = get_or a.points.now (2 * l.i) (pos 0)} (sfits_of (omega arith)) in
    let y = to_z-of_z {w = w32} {z = get_or a.points.now (2 * l.i + 1) (pos 0)} (sfits_of (omega arith)) in
    let read : c.find-reply.result ≡ reading s (get_or a.points.now (2 * l.i) (pos 0)) (get_or a.points.now (2 * l.i + 1) (pos 0)) = c.find-reply.ensures ∙ (λ i. reading s (x i) (y i)) in
    let before = answers_text s a.points.now l.i in
    let line = answer_text c.find-reply.result in
    let text : p.new.text.bytes.now ≡ put (before ++ line) a.text.now = p.ensures.text_after ∙ ap (λ t. over line t l.lines.at) l.invariant.written ∙ put_more before line a.text.now l.lines.at l.invariant.long in
    let more : before ++ line ≡ answers_text s a.points.now (l.i + 1) = rw (add-one l.i) (ap (λ a. before ++ answer_text a) read) in
    record {
      long = omega (arith, p.ensures.value.0, l.invariant.long, length-append before line, ap length more);
      short = omega (arith, p.ensures.value.0, p.ensures.value.1, l.invariant.short);
      written = text ∙ ap (λ t. put t a.text.now) more;
      same_text = p.ensures.same_text ∙ l.invariant.same_text;
    }
