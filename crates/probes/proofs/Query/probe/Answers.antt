-- The look in the middle narrows the entries that are left, or ends the probes.
use Rattle.std.proofs.Common.{refl, arith}
use Rattle.probes.proofs.Looks.{probing_faulty, probing_west, probing_covering, probing_beyond, probing_ends}
use Rattle.probes.proofs.Query.probe.Goals as goal

pub loop-lo-init : goal.loop-lo-init
loop-lo-init c = ((omega arith, omega arith), (c.args.to, omega arith, refl))

pub returns-in-Faulty : goal.returns-in-Faulty
returns-in-Faulty c =
    probing_faulty c.args.self.now _ c.loop-lo.probes c.loop-lo-test.true c.entry_at-edge.ensures c.in-Faulty.ensures c.loop-lo.invariant.1

pub loop-lo-preserved-in-West : goal.loop-lo-preserved-in-West
loop-lo-preserved-in-West c =
    ((omega arith, omega arith), probing_west c.args.self.now _ c.loop-lo.probes c.loop-lo-test.true c.entry_at-edge.ensures c.in-West.ensures c.loop-lo.invariant.1)

pub returns-in-Covering : goal.returns-in-Covering
returns-in-Covering c =
    probing_covering c.args.self.now _ c.loop-lo.probes c.loop-lo-test.true c.entry_at-edge.ensures c.in-Covering.ensures c.loop-lo.invariant.1

pub loop-lo-preserved : goal.loop-lo-preserved
loop-lo-preserved c =
    ((omega arith, omega arith), probing_beyond c.args.self.now _ c.loop-lo.probes c.loop-lo-test.true c.entry_at-edge.ensures c.in-Beyond.ensures c.loop-lo.invariant.1)

pub returns : goal.returns
returns c = probing_ends c.args.self.now _ c.loop-lo.probes (omega arith) c.loop-lo.invariant.1
