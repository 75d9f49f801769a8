-- The first of the four parts that refuses gives the verdict; where all pass, the zones' part has written the line.
use Rattle.std.proofs.Common.{rules, sym, ◌∙◌}
use Rattle.tables.specs.Lent.{lent}
use Rattle.sheet.proofs.Whole.{told_by_limits, told_by_records, told_by_drawing, told_by_zones}
use Rattle.sheet.proofs.rules.Goals as goal

pub returns-in_err-limits : goal.returns-in_err-limits
returns-in_err-limits c =
    let p = told_by_limits (lent c.args.sheet) c.args.line.now _ c.from_residual.result (sym c.limits.ensures ∙ c.in_err-limits.was) (search rules) in
    search rules

pub returns-in_err-judge_records : goal.returns-in_err-judge_records
returns-in_err-judge_records c =
    let limits = sym c.limits.ensures ∙ c.in_ok-limits.was in
    let p = told_by_records (lent c.args.sheet) c.args.line.now limits _ c.from_residual-in_err-judge_records.result (sym c.judge_records.ensures ∙ c.in_err-judge_records.was) (search rules) in
    search rules

pub returns-in_err-judge_drawing : goal.returns-in_err-judge_drawing
returns-in_err-judge_drawing c =
    let limits = sym c.limits.ensures ∙ c.in_ok-limits.was in
    let records = sym c.judge_records.ensures ∙ c.in_ok-judge_records.was in
    let p = told_by_drawing (lent c.args.sheet) c.args.line.now limits records _ c.from_residual-in_err-judge_drawing.result (sym c.judge_drawing.ensures ∙ c.in_err-judge_drawing.was) (search rules) in
    search rules

pub returns : goal.returns
returns c =
    let limits = sym c.limits.ensures ∙ c.in_ok-limits.was in
    let records = sym c.judge_records.ensures ∙ c.in_ok-judge_records.was in
    let drawing = sym c.judge_drawing.ensures ∙ c.in_ok-judge_drawing.was in
    let p = told_by_zones (lent c.args.sheet) c.args.line.now limits records drawing c.judge_zones.result c.judge_zones.new.line c.judge_zones.ensures.verdict c.judge_zones.ensures.written in
    search rules
