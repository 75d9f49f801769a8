use Rattle.std.proofs.Common.{◌≡◌, ◌∙◌, ap, ℕ, List, take, length, arith}
use Rattle.theory.proofs.Reached.{with_above}
use Rattle.circles.proofs.Walked.{group_is_run, run_named}
use Rattle.circles.proofs.queue.Queue.spread.Goals as goal

pub add-requires : goal.add-requires
add-requires c =
    let g = c.args.steps.groups in
    let run = c.run-run.ensures ∙ group_is_run g.edges.now g.zones g.order.now g.begin.now c.args.zone g.grouped in
    omega (arith, run_named g.edges.now g.zones c.args.steps.named c.args.zone c.run-run.result.now run c.loop-e.e-index (omega arith), c.edge_above.ensures)

pub returns : goal.returns
returns c =
    let g = c.args.steps.groups in
    let s = c.args.self.now in
    let run = c.run-run.ensures ∙ group_is_run g.edges.now g.zones g.order.now g.begin.now c.args.zone g.grouped in
    let all : c.loop-e.e-index ≡ length c.run-run.result.now = omega arith in
    c.loop-e.invariant ∙ rw all (ap (λ (r : List ℕ). with_above g.edges.now r (take s.count s.zones) (length r)) run)
