-- The marks tell of each vertex whether an edge ends there and whether one starts there.
use Rattle.std.proofs.Common.{◌≡◌, ℕ, Bool, ◌/◌, not, false, length, get_or, ◌∙◌, rules}
use Rattle.subdivision.specs.Limits.{max_vertices}
use Rattle.subdivision.specs.Lowest.{first}
use Rattle.subdivision.specs.Sheet.{shifted, vertex_x}
use Rattle.theory.proofs.First.{first_in_range}
use Rattle.marks.specs.Regular.{regular}
use Rattle.marks.proofs.Marks.{irregular_by_marks}
use Rattle.marks.proofs.vertices.first_irregular.Goals as goal

pub returns : goal.returns
returns c =
    let s = c.args.sheet in
    let n = c.vertex_count.result in
    let test : ℕ → Bool = λ v. not (regular c.shifted-west.result c.shifted-east.result (vertex_x s.tables.vertices.now v) (get_or c.mark_named.new.marks v false) (get_or c.mark_named-2.new.marks v false)) in
    let seen : c.find.result ≡ first test n = first_in_range test n _ _ _ c.find.ensures.ran (λ x q k. search rules) (λ x q k. search rules) in
    let west : c.shifted-west.result ≡ shifted s.west = search rules in
    let east : c.shifted-east.result ≡ shifted s.east = search rules in
    rw c.vertex_count.ensures at seen
    ∙ irregular_by_marks s.west s.east s.tables.vertices.now s.tables.edges.now max_vertices (length s.tables.vertices.now / 2) _ _ _ _ c.requires.0 west east c.mark_named.ensures c.mark_named-2.ensures
