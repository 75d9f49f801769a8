-- The word, the number and the newline are written one after the other.
use mathlib.Core.Path.{ap, ◌∙◌}
use mathlib.Core.List.{[], ◌∷◌}
use native.Mathlib.Omega.{arith}
use Rattle.subdivision.specs.Lists.{over}
use Rattle.frames.specs.Lines.{newline}
use Rattle.frames.specs.Placing.{decimal}
use Rattle.framing.proofs.AnswerTexts.{numbered_written}
use Rattle.answers.proofs.put_numbered.Goals as goal

pub returns-clause-text_after : goal.returns-clause-text_after
returns-clause-text_after c =
    let a = c.args in
    let t = a.text.now in
    let b = c.put_bytes in
    let d = c.put_decimal in
    c.put_bytes-2.ensures.text_after
    ∙ ap (λ w. over (newline ∷ []) w d.new.self.at) (d.ensures.text_after ∙ ap (λ w. over (decimal a.n) w b.new.self.at) b.ensures.text_after)
    ∙ numbered_written a.word.now a.n t.bytes.now t.at b.new.self.at d.new.self.at (omega (arith, c.requires)) b.ensures.value d.ensures.value
