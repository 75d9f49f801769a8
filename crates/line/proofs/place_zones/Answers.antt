use Rattle.std.proofs.Common.{◌∙◌, ◌-◌, refl, sym, length, get_or, eqb, arith}
use Rattle.subdivision.specs.Lowest.{lowest_from}
use Rattle.theory.proofs.Lowest.{found_some, found_none}
use Rattle.line.proofs.Placing.{placing_first, placing_next, placed_stuck, placed_all}
use Rattle.line.proofs.place_zones.Goals as goal

pub loop-placed-init : goal.loop-placed-init
loop-placed-init c =
    let g = c.args.groups in
    placing_first g.edges.now g.order.now c.args.line.now (length c.args.waits.now) c.args.waits.now c.requires.waits_value

pub returns-in_default : goal.returns-in_default
returns-in_default c =
    let l = c.loop-placed in
    let g = c.args.groups in
    let z = lowest_from (λ y. eqb (get_or l.waits y 0) 1) (length l.waits - l.cursor) l.cursor in
    let past = found_none (length l.waits) z (sym c.next_ready.ensures ∙ c.in_default.is) in
    let placed = placed_stuck g.edges.now g.order.now c.args.line.now (length c.args.waits.now) l.line l.waits l.placed l.cursor l.invariant g.grouped.0 z refl (omega (arith, past)) in
    record { written = placed.0; words = placed.1 }

pub loop-placed-preserved : goal.loop-placed-preserved
loop-placed-preserved c =
    let l = c.loop-placed in
    let g = c.args.groups in
    let q = c.place-cursor in
    let z = lowest_from (λ y. eqb (get_or l.waits y 0) 1) (length l.waits - l.cursor) l.cursor in
    let here = found_some (length l.waits) z c.in-Some.z (sym c.next_ready.ensures ∙ c.in-Some.is) in
    placing_next g.edges.now g.order.now c.args.line.now (length c.args.waits.now) l.line l.waits l.placed l.cursor l.invariant g.grouped.0 c.in-Some.z (sym here.0) (omega (arith, here)) (omega arith) (omega arith) q.new.waits q.result q.ensures.words q.ensures.within q.ensures.before

pub returns : goal.returns
returns c =
    let l = c.loop-placed in
    let g = c.args.groups in
    let placed = placed_all g.edges.now g.order.now c.args.line.now (length c.args.waits.now) l.line l.waits l.placed l.cursor l.invariant (omega arith) in
    record { written = placed.0; words = placed.1 }
