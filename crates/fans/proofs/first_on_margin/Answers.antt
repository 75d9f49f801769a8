use Rattle.std.proofs.Common.{◌-◌, length, get_or, sym, ap, ◌∙◌, arith}
use Rattle.subdivision.specs.Lowest.{found}
use Rattle.theory.proofs.Lowest.{found_below}
use Rattle.fans.proofs.MarginSteps.{least_fault, least_with_last, least_without_last}
use Rattle.fans.proofs.first_on_margin.Goals.{then-is_fault_between, else-is_fault_between}
use Rattle.fans.proofs.first_on_margin.Goals as goal

pub loop-i-preserved : goal.loop-i-preserved
loop-i-preserved c =
    let a = c.args in
    let t = a.sides.tables in
    let i = c.loop-i.i in
    let points = a.points.now in
    let n = length points in
    let under = get_or points (i - 1) 0 in
    let before = least_fault a.west t.vertices.now t.edges.now points n (i - 1) in
    elim c.if-is_fault_between.branch [
      | then-is_fault_between w ↦ w.least-is ∙ w.lower-least.ensures n under before (sym (found_below n under (c.requires.by_index (i - 1) (omega arith)))) c.loop-i.invariant ∙ ap (found n) (sym (least_with_last a.west t.vertices.now t.edges.now points n i (omega arith) (sym c.is_fault_between.ensures ∙ w.if-is_fault_between.true)))
      | else-is_fault_between w ↦ w.least-is ∙ c.loop-i.invariant ∙ ap (found n) (sym (least_without_last a.west t.vertices.now t.edges.now points n i (omega arith) (sym c.is_fault_between.ensures ∙ w.if-is_fault_between.false)))
    ]
