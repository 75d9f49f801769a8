-- The loop's invariant: of the edges passed, the best is the highest beneath the point.
use Rattle.std.proofs.Common.{◌≡◌}
use Rattle.subdivision.specs.Lowest.{found}
use Rattle.scans.specs.Scans.{highest_to}
use Rattle.scans.proofs.Scan.edge_beneath.Given as goal

abbrev pub invariant-loop-e : goal.invariant-loop-e
invariant-loop-e l =
    l.best ≡ found l.count (highest_to l.self.tables.vertices.now l.self.tables.edges.now l.self.x l.self.y l.self.margin l.count l.e)
