-- The kind, the numbers and the newline are written one after the other.
use Rattle.std.proofs.Common.{[], ◌∷◌, arith, ap, ◌∙◌}
use Rattle.subdivision.specs.Lists.{over}
use Rattle.frames.specs.Lines.{newline}
use Rattle.frames.specs.Texts.{numbers_text}
use Rattle.framing.proofs.WrittenFrames.{frame_written}
use Rattle.writer.proofs.lines.put_frame.Goals as goal

pub returns-clause-text_after : goal.returns-clause-text_after
returns-clause-text_after c =
    let a = c.args in
    let t = a.text.now in
    let d = c.put_digits in
    let n = c.put_numbers in
    c.put_bytes.ensures.text_after
    ∙ ap (λ w. over (newline ∷ []) w n.new.text.at) (n.ensures.text_after ∙ ap (λ w. over (numbers_text a.numbers.now) w d.new.self.at) d.ensures.text_after)
    ∙ frame_written a.kind a.numbers.now t.bytes.now t.at d.new.self.at n.new.text.at (omega (arith, c.requires)) d.ensures.value n.ensures.value
