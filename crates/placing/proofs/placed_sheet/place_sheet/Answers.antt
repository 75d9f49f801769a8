-- A refused sheet is one line; on an accepted one each point has its own.
use Rattle.std.proofs.Common.{arith, rules, sym, ap, ◌∙◌, length}
use Rattle.subdivision.specs.Lists.{put}
use Rattle.tables.specs.Lent.{lent}
use Rattle.theory.proofs.Faults.{says_given}
use Rattle.theory.proofs.Judgement.{accepted_decides}
use Rattle.subdivision.specs.Faults.{opening_refusals}
use Rattle.placing.proofs.Printed.{opens_by_tables, sheet_refused, sheet_passed, refused_short}
use Rattle.placing.proofs.placed_sheet.place_sheet.Goals as goal

pub place_points-requires : goal.place_points-requires
place_points-requires c =
    let e = c.in-Ok.is in record { accepted = ((c.open_sheet.ensures.opened.0 e).0, c.open_sheet.ensures.indexed e); points_in_bounds = omega arith }

pub put_refused-requires : goal.put_refused-requires
put_refused-requires c =
    let r = c.in-Err.refusal in
    omega (arith, refused_short r.number r.item (search rules) (search rules))

pub returns-in-Err : goal.returns-in-Err
returns-in-Err c =
    let a = c.args in
    let w = c.put_refused.ensures in
    let r = c.in-Err.refusal in
    let s = lent a.sheet in
    let given = (c.open_sheet.ensures.refused r.number r.item).0 c.in-Err.is in
    let e = sym (sheet_refused s a.points.now r.number r.item (sym (opens_by_tables s (length a.index.now) c.requires.0) ∙ says_given (opening_refusals s (length a.index.now)) r.number r.item given)) in
    record {
      value = w.value ∙ ap length e;
      text_after = w.text_after ∙ ap (λ t. put t a.text.now) e;
    }

pub returns-in-Ok : goal.returns-in-Ok
returns-in-Ok c =
    let a = c.args in
    let w = c.place_points.ensures in
    let s = lent a.sheet in
    let accepted = (c.open_sheet.ensures.opened.0 c.in-Ok.is).0 in
    let e = sym (sheet_passed s a.points.now ((accepted_decides s).1 accepted)) in
    record { value = w.value ∙ ap length e; text_after = w.text_after ∙ ap (λ t. put t a.text.now) e }
