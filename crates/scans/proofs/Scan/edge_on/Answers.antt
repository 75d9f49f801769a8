use Rattle.std.proofs.Common.{rules}
use Rattle.subdivision.specs.Formula.{holds}
use Rattle.subdivision.specs.Lines.{is_on}
use Rattle.subdivision.specs.Sheet.{segment_of}
use Rattle.theory.proofs.First.{first_in_range}
use Rattle.scans.proofs.Scan.edge_on.Goals as goal

pub returns : goal.returns
returns c =
    let a = c.args.self in
    rw c.edge_count-count.ensures at
    (first_in_range (λ e. holds (is_on (segment_of a.tables.vertices.now a.tables.edges.now e) a.x a.y)) _ _ _ _ c.find.ensures.ran (λ x q k. search rules) (λ x q k. search rules))
