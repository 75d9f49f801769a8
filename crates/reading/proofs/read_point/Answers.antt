-- The tables are judged, then the point's place against the sheet; on it, the line's first word is its first zone and the scans answer.
use Rattle.std.proofs.Common.{rules, sym, ◌∙◌, get_or}
use Rattle.tables.specs.Lent.{lent}
use Rattle.reading.proofs.Promises.{first_read, refusal_promised, off_sheet_promised, placed_promised}
use Rattle.reading.proofs.read_point.Goals as goal

pub returns-in_err-rules : goal.returns-in_err-rules
returns-in_err-rules c =
    let p = refusal_promised (lent c.args.sheet) c.args.x c.args.y _ c.from_residual.result (sym c.rules.ensures.verdict ∙ c.in_err-rules.was) (search rules) in
    search rules

pub returns-then-not-on_sheet : goal.returns-then-not-on_sheet
returns-then-not-on_sheet c =
    let p = off_sheet_promised (lent c.args.sheet) c.args.x c.args.y (sym c.rules.ensures.verdict ∙ c.in_ok-rules.was) (search rules) in
    search rules

pub returns : goal.returns
returns c =
    let s = lent c.args.sheet in
    let zone = first_read s c.rules.result _ c.rules.new.line _ (sym c.rules.ensures.verdict) c.in_ok-rules.was c.rules.ensures.written in
    let p = placed_promised s c.args.x c.args.y (get_or c.rules.new.line 0 0) c.place.result (sym c.rules.ensures.verdict ∙ c.in_ok-rules.was) (search rules) zone (search rules) in
    search rules
