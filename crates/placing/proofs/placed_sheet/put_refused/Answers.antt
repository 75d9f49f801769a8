-- What is written from the start on is put to the front.
use Rattle.std.proofs.Common.{rules, ◌∙◌}
use Rattle.frames.specs.Placing.{refused_text}
use Rattle.theory.proofs.Written.{over_front}
use Rattle.placing.proofs.placed_sheet.put_refused.Goals as goal

pub returns-clause-text_after : goal.returns-clause-text_after
returns-clause-text_after c =
    search rules ∙ c.put_refusal.ensures.text_after ∙ over_front (refused_text c.args.number c.args.item) c.args.text.now
