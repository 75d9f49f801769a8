use Rattle.std.proofs.Common.{sym, ap, ◌∙◌}
use mir.Facts.{to_z-of_z}
use Rattle.subdivision.specs.Sheet.{sheet_of}
use Rattle.subdivision.specs.Answers.{verdict_values}
use Rattle.subdivision.specs.Calls.{opening}
use Rattle.exports.proofs.tw_open.Goals as goal

pub returns-in-Ok-clause-verdict : goal.returns-in-Ok-clause-verdict
unfolding verdict_values
returns-in-Ok-clause-verdict c = ap verdict_values (sym c.in-Ok.is ∙ c.open_sheet.ensures.verdict ∙ (λ i. (opening (c.lent.ensures i) c.args.index.now).verdict) ∙ (λ i. (opening (sheet_of (to_z-of_z c.ranges.west i) (to_z-of_z c.ranges.east i) c.args.vertices.now c.args.edges.now c.args.zones) c.args.index.now).verdict))

pub returns-in-Err-clause-verdict : goal.returns-in-Err-clause-verdict
unfolding verdict_values
returns-in-Err-clause-verdict c = ap verdict_values (sym c.in-Err.is ∙ c.open_sheet.ensures.verdict ∙ (λ i. (opening (c.lent.ensures i) c.args.index.now).verdict) ∙ (λ i. (opening (sheet_of (to_z-of_z c.ranges.west i) (to_z-of_z c.ranges.east i) c.args.vertices.now c.args.edges.now c.args.zones) c.args.index.now).verdict))
