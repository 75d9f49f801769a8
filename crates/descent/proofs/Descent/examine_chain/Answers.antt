-- The probes find an edge that is there.
use Rattle.descent.proofs.Steps.{covered_known}
use Rattle.descent.proofs.Descent.examine_chain.Goals as goal

pub examine_edge-requires : goal.examine_edge-requires
examine_edge-requires c =
    (c.requires.1.0, covered_known c.args.query.now c.args.self.k c.args.self.probes c.start_of-from.ensures c.start_of-to.ensures c.in_ok-found.ensures)
