use Rattle.std.proofs.Common.{ℕ, ◌-◌, ◌/◌, List, length, get_or, ap, ap₂, ◌∙◌, arith}
use Rattle.subdivision.specs.Lowest.{lowest, found, first}
use Rattle.theory.proofs.Lowest.{least_of}
use Rattle.fans.specs.Fans.{vertex_fault, margin_fault, point_order}
use Rattle.fans.proofs.FanTables.{points_below}
use Rattle.fans.proofs.names_fault.Goals as goal

pub first_on_margin-margin-requires-clause-points_len : goal.first_on_margin-margin-requires-clause-points_len
first_on_margin-margin-requires-clause-points_len c =
    let a = c.args in
    omega (arith, (points_below a.tables.vertices.now (length a.tables.vertices.now / 2) c.requires.points_value).0)

pub first_on_margin-margin-requires-clause-by_index : goal.first_on_margin-margin-requires-clause-by_index
first_on_margin-margin-requires-clause-by_index c i h =
    let a = c.args in
    let points = points_below a.tables.vertices.now (length a.tables.vertices.now / 2) c.requires.points_value in
    omega (arith, points.0, points.1 i (omega (arith, points.0)))

pub returns : goal.returns
returns c =
    let a = c.args in
    let vertices = a.tables.vertices.now in
    let edges = a.tables.edges.now in
    let n = length vertices / 2 in
    let least = λ (l : List ℕ) (k : ℕ). least_of (margin_fault a.west vertices edges l) (λ i. get_or l i 0) (k - 1) k in
    let inside = c.first_untied-inside.ensures ∙ ap (λ (k : ℕ). first (vertex_fault vertices edges) k) c.vertex_count-count.ensures in
    let margin = c.first_on_margin-margin.ensures ∙ ap₂ (λ (l : List ℕ) (k : ℕ). found k (least l k)) c.requires.points_value (points_below vertices n c.requires.points_value).0 in
    c.lower.ensures n (lowest (vertex_fault vertices edges) n) (least (point_order vertices n) n) inside margin
