use Rattle.std.proofs.Common.{sym, ap, ◌∙◌}
use mir.Facts.{to_z-of_z}
use Rattle.subdivision.specs.Sheet.{sheet_of}
use Rattle.frames.specs.Answers.{written_values}
use Rattle.frames.specs.Texts.{write_page}
use Rattle.exports.proofs.tw_write_page.Goals as goal

pub returns-in-Ok-clause-written : goal.returns-in-Ok-clause-written
unfolding written_values
returns-in-Ok-clause-written c = ap written_values (sym c.in-Ok.is ∙ c.write_page.ensures.written ∙ (λ i. (write_page (c.lent.ensures i) c.args.points.now c.args.text.now).written) ∙ (λ i. (write_page (sheet_of (to_z-of_z c.ranges.west i) (to_z-of_z c.ranges.east i) c.args.vertices.now c.args.edges.now c.args.zones) c.args.points.now c.args.text.now).written))

pub returns-in-Err-clause-written : goal.returns-in-Err-clause-written
unfolding written_values
returns-in-Err-clause-written c = ap written_values (sym c.in-Err.is ∙ c.write_page.ensures.written ∙ (λ i. (write_page (c.lent.ensures i) c.args.points.now c.args.text.now).written) ∙ (λ i. (write_page (sheet_of (to_z-of_z c.ranges.west i) (to_z-of_z c.ranges.east i) c.args.vertices.now c.args.edges.now c.args.zones) c.args.points.now c.args.text.now).written))
