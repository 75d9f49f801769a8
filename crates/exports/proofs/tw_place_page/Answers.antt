use Rattle.std.proofs.Common.{sym, ap, ◌∙◌}
use Rattle.frames.specs.Answers.{written_values}
use Rattle.exports.proofs.tw_place_page.Goals as goal

pub returns-in-Ok-clause-written : goal.returns-in-Ok-clause-written
unfolding written_values
returns-in-Ok-clause-written c = ap written_values (sym c.in-Ok.is ∙ c.place_page.ensures.written)

pub returns-in-Err-clause-written : goal.returns-in-Err-clause-written
unfolding written_values
returns-in-Err-clause-written c = ap written_values (sym c.in-Err.is ∙ c.place_page.ensures.written)
