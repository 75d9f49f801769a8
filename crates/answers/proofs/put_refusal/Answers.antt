-- The word, the number, and a blank and the item are written one after the other.
use mathlib.Core.Path.{ap, ◌∙◌}
use mathlib.Core.List.{[], ◌∷◌}
use native.Mathlib.Omega.{arith}
use Rattle.subdivision.specs.Lists.{over}
use Rattle.frames.specs.Placing.{decimal, numbered}
use Rattle.framing.proofs.AnswerTexts.{refused_written}
use Rattle.answers.proofs.put_refusal.Goals as goal

pub returns-clause-text_after : goal.returns-clause-text_after
returns-clause-text_after c =
    let a = c.args in
    let t = a.text.now in
    let b = c.put_bytes in
    let d = c.put_decimal in
    c.put_numbered.ensures.text_after
    ∙ ap (λ w. over (numbered (32 ∷ []) a.item) w d.new.self.at) (d.ensures.text_after ∙ ap (λ w. over (decimal a.number) w b.new.self.at) b.ensures.text_after)
    ∙ refused_written a.number a.item t.bytes.now t.at b.new.self.at d.new.self.at (omega (arith, c.requires)) b.ensures.value d.ensures.value
