-- Each scan gives its refusal where it finds an item at fault, and otherwise the next is asked.
use Rattle.std.proofs.Common.{rules, arith, refl, sym, ◌∙◌, drop}
use Rattle.subdivision.specs.Sheet.{vertex_count, edge_count}
use Rattle.subdivision.specs.Rules.{vertex_regular, edge_clear, names_agree}
use Rattle.tables.specs.Lent.{lent}
use Rattle.theory.proofs.Judgement.{passed_keeps}
use Rattle.sheet.specs.Judgement.{record_refusals, drawing_refusals}
use Rattle.sheet.proofs.Scans.{scan_refuses, scan_passes, scan_keeps, scan_judges}
use Rattle.sheet.proofs.parts.judge_drawing.Goals as goal

pub returns-in_err-refuse : goal.returns-in_err-refuse
returns-in_err-refuse c =
    let s = lent c.args.sheet in
    scan_refuses 9 (vertex_count s) (vertex_regular s) (drop 1 (drawing_refusals s)) _ _ c.first_irregular.ensures refl _ c.refuse.ensures _ c.in_err-refuse.was c.from_residual.result (search rules)

pub first_conflict-requires : goal.first_conflict-requires
first_conflict-requires c e h =
    let names = (passed_keeps (record_refusals (lent c.args.sheet)) c.requires.records).1.1.0 e (omega (arith, c.edge_count.ensures)) in
    (omega (arith, c.edge_count.ensures), names.0)

pub returns-in_err-refuse-2 : goal.returns-in_err-refuse-2
returns-in_err-refuse-2 c =
    let s = lent c.args.sheet in
    let passed0 = scan_passes 9 (vertex_count s) (vertex_regular s) (drop 1 (drawing_refusals s)) _ _ c.first_irregular.ensures refl _ c.refuse.ensures _ c.in_ok-refuse.was in
    scan_refuses 10 (edge_count s) (edge_clear s) (drop 2 (drawing_refusals s)) _ _ c.first_conflict.ensures c.edge_count.ensures _ c.refuse-2.ensures _ c.in_err-refuse-2.was c.from_residual-in_err-refuse-2.result (search rules)
    ∙ sym passed0

pub first_disagreement-requires-clause-rule1 : goal.first_disagreement-requires-clause-rule1
first_disagreement-requires-clause-rule1 c = let k = passed_keeps (record_refusals (lent c.args.sheet)) c.requires.records in (k.0, k.1.0)

pub first_disagreement-requires-clause-rule2 : goal.first_disagreement-requires-clause-rule2
first_disagreement-requires-clause-rule2 c = let k = passed_keeps (record_refusals (lent c.args.sheet)) c.requires.records in (k.1.1.0, (k.1.1.1.0, k.1.1.1.1.0))

pub first_disagreement-requires-clause-rule4 : goal.first_disagreement-requires-clause-rule4
first_disagreement-requires-clause-rule4 c =
    let s = lent c.args.sheet in
    scan_keeps 10 (edge_count s) (edge_clear s) (drop 2 (drawing_refusals s)) _ _ c.first_conflict.ensures c.edge_count.ensures _ c.refuse-2.ensures _ c.in_ok-refuse-2.was

pub returns : goal.returns
returns c =
    let s = lent c.args.sheet in
    let passed0 = scan_passes 9 (vertex_count s) (vertex_regular s) (drop 1 (drawing_refusals s)) _ _ c.first_irregular.ensures refl _ c.refuse.ensures _ c.in_ok-refuse.was in
    let passed1 = scan_passes 10 (edge_count s) (edge_clear s) (drop 2 (drawing_refusals s)) _ _ c.first_conflict.ensures c.edge_count.ensures _ c.refuse-2.ensures _ c.in_ok-refuse-2.was in
    c.refuse-3.ensures ∙ scan_judges 11 (vertex_count s) (names_agree s) _ _ c.first_disagreement.ensures refl ∙ sym (passed0 ∙ passed1)
