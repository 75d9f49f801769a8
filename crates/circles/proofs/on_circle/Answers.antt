-- No zone is queued at first, and when the steps of all those queued are taken, the zone's mark tells whether it is on a circle.
use Rattle.std.proofs.Common.{◌∙◌, ◌<◌, take, length, get_or, arith}
use lib.Seq.{get_or-take}
use Rattle.subdivision.specs.Limits.{max_zones}
use Rattle.theory.proofs.Reached.{reached_circle, fits_within}
use Rattle.line.specs.Waiting.{zones_of}
use Rattle.circles.proofs.Queued.{looking_none}
use Rattle.circles.proofs.Walked.{walked_first, walked_next, walked_named}
use Rattle.circles.proofs.on_circle.Goals as goal

pub invariant_of-queue : goal.invariant_of-queue
invariant_of-queue c = record { looking = looking_none max_zones }

pub loop-head-init : goal.loop-head-init
loop-head-init c =
    let g = c.args.steps.groups in
    walked_first g.edges.now g.zones c.args.steps.named c.args.zone _ c.spread.ensures

pub spread-requires-in-loop-head : goal.spread-requires-in-loop-head
spread-requires-in-loop-head c =
    let g = c.args.steps.groups in
    let l = c.loop-head in
    let q = l.queue in
    let inside : l.head < length (take q.count q.zones) = omega (arith, q.looking.long) in
    omega (arith, walked_named g.edges.now g.zones c.args.steps.named c.args.zone _ l.head l.head l.invariant inside, get_or-take q.count q.zones l.head 0 (omega arith))

pub loop-head-smaller : goal.loop-head-smaller
loop-head-smaller c =
    let g = c.args.steps.groups in
    let l = c.loop-head in
    let q = l.queue in
    omega (arith, q.looking.long, fits_within (zones_of g.edges.now g.zones) (take q.count q.zones) l.invariant.fits)

pub loop-head-preserved : goal.loop-head-preserved
loop-head-preserved c =
    let g = c.args.steps.groups in
    let l = c.loop-head in
    let q = l.queue in
    walked_next g.edges.now g.zones c.args.steps.named c.args.zone _ l.head (get_or q.zones l.head 0) l.invariant (omega (arith, q.looking.long)) (get_or-take q.count q.zones l.head 0 (omega arith)) _ c.spread-in-loop-head.ensures

pub returns : goal.returns
returns c =
    let g = c.args.steps.groups in
    let l = c.loop-head in
    let q = l.queue in
    let s = zones_of g.edges.now g.zones in
    let list = take q.count q.zones in
    c.has.ensures ∙ reached_circle s c.args.zone list l.head l.invariant.reached (omega (arith, q.looking.long)) (fits_within s list l.invariant.fits)
