use Rattle.std.proofs.Common.{◌≡◌, ◌∙◌, arith}
use Rattle.scans.specs.Scans.{edge_beneath}
use Rattle.scans.proofs.OnePass.{best_next}
use Rattle.scans.proofs.Scan.edge_beneath.Goals.{then-takes_over, else-takes_over}
use Rattle.scans.proofs.Scan.edge_beneath.Goals as goal

pub loop-e-preserved : goal.loop-e-preserved
loop-e-preserved c =
    let a = c.args.self in
    let l = c.loop-e in
    let next = best_next a.tables.vertices.now a.tables.edges.now a.x a.y a.margin c.edge_count-count.result l.best l.e c.takes_over.result c.loop-e-test.true l.invariant c.takes_over.ensures in
    elim c.if-takes_over.branch [
      | then-takes_over w ↦ w.best-is ∙ rw w.if-takes_over.true at next
      | else-takes_over w ↦ w.best-is ∙ rw w.if-takes_over.false at next
    ]

pub returns : goal.returns
unfolding edge_beneath
returns c =
    let l = c.loop-e in
    let whole : l.e ≡ c.edge_count-count.result = omega arith in
    rw (whole, c.edge_count-count.ensures) at l.invariant
