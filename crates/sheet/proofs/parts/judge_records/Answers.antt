-- Each scan gives its refusal where it finds an item at fault, and otherwise the next is asked.
use Rattle.std.proofs.Common.{rules, sym, ◌∙◌, drop}
use Rattle.subdivision.specs.Sheet.{vertex_count, edge_count}
use Rattle.subdivision.specs.Rules.{vertex_inside, vertex_new, edge_names, edge_runs, zones_differ}
use Rattle.tables.specs.Lent.{lent}
use Rattle.sheet.specs.Judgement.{record_refusals}
use Rattle.sheet.proofs.Scans.{scan_refuses, scan_passes, scan_judges}
use Rattle.sheet.proofs.parts.judge_records.Goals as goal

pub returns-in_err-refuse : goal.returns-in_err-refuse
returns-in_err-refuse c =
    let s = lent c.args.sheet in
    scan_refuses 4 (vertex_count s) (vertex_inside s) (drop 1 (record_refusals s)) _ _ c.first_outside.ensures c.vertex_count-v.ensures _ c.refuse.ensures _ c.in_err-refuse.was c.from_residual.result (search rules)

pub returns-in_err-refuse-2 : goal.returns-in_err-refuse-2
returns-in_err-refuse-2 c =
    let s = lent c.args.sheet in
    let passed0 = scan_passes 4 (vertex_count s) (vertex_inside s) (drop 1 (record_refusals s)) _ _ c.first_outside.ensures c.vertex_count-v.ensures _ c.refuse.ensures _ c.in_ok-refuse.was in
    scan_refuses 5 (vertex_count s) (vertex_new s) (drop 2 (record_refusals s)) _ _ c.first_repeat.ensures c.vertex_count-v.ensures _ c.refuse-2.ensures _ c.in_err-refuse-2.was c.from_residual-in_err-refuse-2.result (search rules) ∙ sym (passed0)

pub returns-in_err-refuse-3 : goal.returns-in_err-refuse-3
returns-in_err-refuse-3 c =
    let s = lent c.args.sheet in
    let passed0 = scan_passes 4 (vertex_count s) (vertex_inside s) (drop 1 (record_refusals s)) _ _ c.first_outside.ensures c.vertex_count-v.ensures _ c.refuse.ensures _ c.in_ok-refuse.was in
    let passed1 = scan_passes 5 (vertex_count s) (vertex_new s) (drop 2 (record_refusals s)) _ _ c.first_repeat.ensures c.vertex_count-v.ensures _ c.refuse-2.ensures _ c.in_ok-refuse-2.was in
    scan_refuses 6 (edge_count s) (edge_names s) (drop 3 (record_refusals s)) _ _ c.first_misnamed.ensures c.edge_count-m.ensures _ c.refuse-3.ensures _ c.in_err-refuse-3.was c.from_residual-in_err-refuse-3.result (search rules) ∙ sym (passed0 ∙ passed1)

pub returns-in_err-refuse-4 : goal.returns-in_err-refuse-4
returns-in_err-refuse-4 c =
    let s = lent c.args.sheet in
    let passed0 = scan_passes 4 (vertex_count s) (vertex_inside s) (drop 1 (record_refusals s)) _ _ c.first_outside.ensures c.vertex_count-v.ensures _ c.refuse.ensures _ c.in_ok-refuse.was in
    let passed1 = scan_passes 5 (vertex_count s) (vertex_new s) (drop 2 (record_refusals s)) _ _ c.first_repeat.ensures c.vertex_count-v.ensures _ c.refuse-2.ensures _ c.in_ok-refuse-2.was in
    let passed2 = scan_passes 6 (edge_count s) (edge_names s) (drop 3 (record_refusals s)) _ _ c.first_misnamed.ensures c.edge_count-m.ensures _ c.refuse-3.ensures _ c.in_ok-refuse-3.was in
    scan_refuses 7 (edge_count s) (edge_runs s) (drop 4 (record_refusals s)) _ _ c.first_backward.ensures c.edge_count-m.ensures _ c.refuse-4.ensures _ c.in_err-refuse-4.was c.from_residual-in_err-refuse-4.result (search rules) ∙ sym (passed0 ∙ passed1 ∙ passed2)

pub returns : goal.returns
returns c =
    let s = lent c.args.sheet in
    let passed0 = scan_passes 4 (vertex_count s) (vertex_inside s) (drop 1 (record_refusals s)) _ _ c.first_outside.ensures c.vertex_count-v.ensures _ c.refuse.ensures _ c.in_ok-refuse.was in
    let passed1 = scan_passes 5 (vertex_count s) (vertex_new s) (drop 2 (record_refusals s)) _ _ c.first_repeat.ensures c.vertex_count-v.ensures _ c.refuse-2.ensures _ c.in_ok-refuse-2.was in
    let passed2 = scan_passes 6 (edge_count s) (edge_names s) (drop 3 (record_refusals s)) _ _ c.first_misnamed.ensures c.edge_count-m.ensures _ c.refuse-3.ensures _ c.in_ok-refuse-3.was in
    let passed3 = scan_passes 7 (edge_count s) (edge_runs s) (drop 4 (record_refusals s)) _ _ c.first_backward.ensures c.edge_count-m.ensures _ c.refuse-4.ensures _ c.in_ok-refuse-4.was in
    c.refuse-5.ensures ∙ scan_judges 8 (edge_count s) (zones_differ s) _ _ c.first_one_zoned.ensures c.edge_count-m.ensures ∙ sym (passed0 ∙ passed1 ∙ passed2 ∙ passed3)
