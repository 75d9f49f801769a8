use Rattle.std.proofs.Common.{◌≡◌, ◌≤◌, [], ◌∷◌, ◌++◌, ◌+◌, length, get_or, take, add-one, arith, refl, ◌∙◌}
use lib.Seq.{length-take-le, take-suc}
use Rattle.subdivision.specs.Limits.{max_edges}
use Rattle.subdivision.specs.Sheet.{edge_above}
use Rattle.theory.proofs.Lists.{is_tab}
use Rattle.line.proofs.Turns.{counted_none, counted_small, counted_next}
use Rattle.line.proofs.words.count_under.Goals as goal

pub loop-e-init : goal.loop-e-init
loop-e-init c =
    let w = c.fill.new.self in
    is_tab (λ z. 1) 0 w (length w) refl (λ k h. c.fill.ensures.clones k 0 (omega arith) refl) ∙ counted_none c.args.edges.now (length w)

pub raise-requires : goal.raise-requires
raise-requires c =
    let l = c.loop-e in
    let a = c.args in
    let n = length c.fill.new.self in
    let small : length (take l.e-index a.order.now) ≤ max_edges = omega (arith, length-take-le l.e-index a.order.now (omega arith)) in
    rw l.invariant (omega (arith, counted_small a.edges.now (take l.e-index a.order.now) n c.edge_above.result))

pub loop-e-preserved : goal.loop-e-preserved
loop-e-preserved c =
    let l = c.loop-e in
    let a = c.args in
    let n = length c.fill.new.self in
    let e = get_or a.order.now l.e-index 0 in
    let zone : c.edge_above.result ≡ edge_above a.edges.now e = c.edge_above.ensures in
    let next : take (l.e-index + 1) a.order.now ≡ take l.e-index a.order.now ++ (e ∷ []) = rw (add-one l.e-index) (take-suc a.order.now l.e-index 0 (omega arith)) in
    c.raise.ensures ∙ rw (zone, next, l.invariant) (counted_next a.edges.now (take l.e-index a.order.now) n e)
