use Rattle.std.proofs.Common.{◌≡◌, sym, ◌/◌, length, arith}
use Rattle.marks.proofs.Marks.{marked_by_none, marked_by_one_more}
use Rattle.marks.proofs.marking.mark_named.Goals as goal

pub loop-e-init : goal.loop-e-init
loop-e-init c = sym (marked_by_none _ _ _)

pub loop-e-preserved : goal.loop-e-preserved
loop-e-preserved c =
    let more = marked_by_one_more c.args.edges.now c.place-at.result c.loop-e.e c.args.marks.now in
    cc

pub returns : goal.returns
returns c =
    let end : c.loop-e.e ≡ length c.args.edges.now / 4 = omega arith in
    cc
