use Rattle.std.proofs.Common.{sym, ap, ◌∙◌}
use mir.Facts.{to_z-of_z}
use Rattle.subdivision.specs.Sheet.{sheet_of}
use Rattle.ledger.specs.Answers.{month_values}
use Rattle.ledger.specs.Months.{samples_of, lent_of, month_of}
use Rattle.exports.proofs.tw_month.Goals as goal

pub returns-in-Ok-clause-month : goal.returns-in-Ok-clause-month
unfolding month_values
returns-in-Ok-clause-month c = ap month_values (sym c.in-Ok.is ∙ (λ i. (c.judge_month.ensures.left i).month) ∙ (λ i. (month_of (c.lent-sheet.ensures i) c.args.index.now (samples_of c.args.points.now c.args.kinds.now c.args.values.now) c.args.permits.now (lent_of c.args.boundary.now c.args.off.now c.args.results.now c.args.means.now)).month) ∙ (λ i. (month_of (sheet_of (to_z-of_z c.ranges.west i) (to_z-of_z c.ranges.east i) c.args.vertices.now c.args.edges.now c.args.zones) c.args.index.now (samples_of c.args.points.now c.args.kinds.now c.args.values.now) c.args.permits.now (lent_of c.args.boundary.now c.args.off.now c.args.results.now c.args.means.now)).month))

pub returns-in-Err-clause-month : goal.returns-in-Err-clause-month
unfolding month_values
returns-in-Err-clause-month c = ap month_values (sym c.in-Err.is ∙ (λ i. (c.judge_month.ensures.left i).month) ∙ (λ i. (month_of (c.lent-sheet.ensures i) c.args.index.now (samples_of c.args.points.now c.args.kinds.now c.args.values.now) c.args.permits.now (lent_of c.args.boundary.now c.args.off.now c.args.results.now c.args.means.now)).month) ∙ (λ i. (month_of (sheet_of (to_z-of_z c.ranges.west i) (to_z-of_z c.ranges.east i) c.args.vertices.now c.args.edges.now c.args.zones) c.args.index.now (samples_of c.args.points.now c.args.kinds.now c.args.values.now) c.args.permits.now (lent_of c.args.boundary.now c.args.off.now c.args.results.now c.args.means.now)).month))
