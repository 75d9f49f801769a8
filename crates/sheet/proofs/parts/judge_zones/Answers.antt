-- Refusal 12 by its scan; then the line leaves a zone, and refusal 13 names the lowest on a circle, or it is written over.
use Rattle.std.proofs.Common.{rules, refl, sym, ◌∙◌, [], ◌∷◌}
use Rattle.subdivision.specs.Sheet.{zone_count}
use Rattle.subdivision.specs.Rules.{zone_named}
use Rattle.subdivision.specs.Refusals.{limit_refusals, circle_refusal}
use Rattle.tables.specs.Lent.{lent}
use Rattle.theory.proofs.Judgement.{passed_keeps}
use Rattle.sheet.specs.Judgement.{record_refusals}
use Rattle.sheet.proofs.CircleRefused.{circle_refused, circle_judged, circle_passed, line_unwritten, line_written}
use Rattle.sheet.proofs.Scans.{scan_refuses, scan_passes}
use Rattle.sheet.proofs.parts.judge_zones.Goals.{Start}
use Rattle.sheet.proofs.parts.judge_zones.Goals as goal

pub returns-in_err-refuse-clause-verdict : goal.returns-in_err-refuse-clause-verdict
returns-in_err-refuse-clause-verdict c =
    let s = lent c.args.sheet in
    scan_refuses 12 (zone_count s) (zone_named s) (circle_refusal s ∷ []) _ _ c.first_unnamed.ensures refl _ c.refuse.ensures _ c.in_err-refuse.was c.from_residual.result (search rules)

pub lowest_on_circle-circle-requires : goal.lowest_on_circle-circle-requires
lowest_on_circle-circle-requires c =
    let s = lent c.args.sheet in
    let k = (passed_keeps (limit_refusals s) c.requires.limits).0 in
    let named = (passed_keeps (record_refusals s) c.requires.records).1.1.0 in
    ((k.1.0.1, k.1.1.1), λ e h. (named e h).1.0)

pub returns-in-Some-clause-verdict : goal.returns-in-Some-clause-verdict
returns-in-Some-clause-verdict c =
    let s = lent c.args.sheet in
    let named = (passed_keeps (record_refusals s) c.requires.records).1.1.0 in
    let passed = scan_passes 12 (zone_count s) (zone_named s) (circle_refusal s ∷ []) _ _ c.first_unnamed.ensures refl _ c.refuse.ensures _ c.in_ok-refuse.was in
    c.refuse-in-Some.ensures
    ∙ circle_refused s (λ e h. (named e h).1) _ c.line_through.ensures.left _ c.in-Some.is _ c.lowest_on_circle-circle.ensures
    ∙ circle_judged s (λ e h. (named e h).1) _ c.line_through.ensures.left _ c.in-Some.is
    ∙ sym passed

pub returns-in-Some-clause-written : goal.returns-in-Some-clause-written
returns-in-Some-clause-written c =
    let s = lent c.args.sheet in
    let named = (passed_keeps (record_refusals s) c.requires.records).1.1.0 in
    line_unwritten s (λ e h. (named e h).1) _ _ c.args.line.now c.line_through.new.line c.in-Some.is c.line_through.ensures.written c.refuse-in-Some.result _
    (c.refuse-in-Some.ensures ∙ circle_refused s (λ e h. (named e h).1) _ c.line_through.ensures.left _ c.in-Some.is _ c.lowest_on_circle-circle.ensures)

pub returns-in-None-clause-verdict : goal.returns-in-None-clause-verdict
returns-in-None-clause-verdict c =
    let s = lent c.args.sheet in
    let named = (passed_keeps (record_refusals s) c.requires.records).1.1.0 in
    let passed = scan_passes 12 (zone_count s) (zone_named s) (circle_refusal s ∷ []) _ _ c.first_unnamed.ensures refl _ c.refuse.ensures _ c.in_ok-refuse.was in
    sym (passed ∙ circle_passed s (λ e h. (named e h).1) _ c.line_through.ensures.left c.in-None.is)

pub returns-in-None-clause-written : goal.returns-in-None-clause-written
returns-in-None-clause-written c =
    let s = lent c.args.sheet in
    let named = (passed_keeps (record_refusals s) c.requires.records).1.1.0 in
    line_written s (λ e h. (named e h).1) _ c.args.line.now c.line_through.new.line c.in-None.is c.line_through.ensures.written
