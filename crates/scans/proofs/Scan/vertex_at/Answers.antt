use Rattle.std.specs.Prelude.{[], pos}
use Rattle.std.proofs.Common.{rules}
use Rattle.subdivision.specs.Formula.{holds}
use Rattle.subdivision.specs.Reading.{is_vertex}
use Rattle.subdivision.specs.Sheet.{sheet_of}
use Rattle.theory.proofs.First.{first_in_range}
use Rattle.scans.proofs.Scan.vertex_at.Goals as goal

pub returns : goal.returns
returns c =
    let a = c.args.self in
    rw c.vertex_count-count.ensures at
    (first_in_range (λ v. holds (is_vertex (sheet_of (pos 0) (pos 0) a.tables.vertices.now [] 0) a.x a.y v)) _ _ _ _ c.find.ensures.ran (λ x q k. search rules) (λ x q k. search rules))
