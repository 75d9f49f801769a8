-- What the scans of vertices and edges find: the vertex or edge that a point is on, the highest edge beneath it by side tests, and the answer made of them.
use Rattle.std.specs.Prelude.{true, false, List, [], ℕ, zero, suc, ◌/◌, ltb, ℤ, pos, length}
use Rattle.subdivision.specs.declared.Answer.{Answer}
use Rattle.subdivision.specs.declared.Answer.TheVariants.{Vertex, Edge, Zone}
use Rattle.subdivision.specs.declared.Segment.{Segment}
use Rattle.subdivision.specs.Formula.{Formula, is_equal, both, either, holds}
use Rattle.subdivision.specs.Lowest.{lowest}
use Rattle.subdivision.specs.Sheet.{sheet_of, edge_above, segment_of}
use Rattle.subdivision.specs.Lines.{covers, is_above, is_on}
use Rattle.subdivision.specs.Reading.{is_vertex}
use Rattle.geometry.specs.Crossing.{lower_beside}

-- g is lower than h at an end of their overlap; of edges that do not conflict, the lower is so on every line between the ends
abbrev pub lower_between : Segment → Segment → Formula
lower_between g h = either (lower_beside false g h) (lower_beside true g h)

-- the lowest vertex that is the point; their number where none is
abbrev pub vertex_at : List ℤ → ℕ → ℕ → ℕ
vertex_at vertices x y = lowest (λ v. holds (is_vertex (sheet_of (pos 0) (pos 0) vertices [] 0) x y v)) (length vertices / 2)

module _ (vertices : List ℤ) (edges : List ℕ) (x y : ℕ) where
  -- the lowest edge that the point lies on; their number where there is none
  abbrev pub edge_on : ℕ
  edge_on = lowest (λ e. holds (is_on (segment_of vertices edges e) x y)) (length edges / 4)

  module _ (margin : ℕ) where
    -- edge e covers x, on a sheet with that eastern margin, and is strictly below the point
    abbrev pub is_beneath : ℕ → Formula
    is_beneath e = both (covers margin (segment_of vertices edges e) x) (is_above (segment_of vertices edges e) x y)

    -- edge e takes the place of the highest so far: it is beneath the point, and none was found before, or it is higher than that
    abbrev pub takes_over : ℕ → ℕ → ℕ → Formula
    takes_over none best e =
        both (is_beneath e) (either (is_equal best none) (lower_between (segment_of vertices edges best) (segment_of vertices edges e)))

    -- of the first so many edges, the highest beneath the point; a number given for none where there is none
    abbrev pub highest_to : ℕ → ℕ → ℕ
    highest_to none zero = none
    highest_to none (suc k) = elim (holds (takes_over none (highest_to none k) k)) [ true ↦ k | false ↦ highest_to none k ]

    -- the highest edge beneath the point; the number of edges where there is none
    unfoldable pub edge_beneath : ℕ
    edge_beneath = highest_to (length edges / 4) (length edges / 4)

    -- the zone above the highest edge beneath the point; the first zone of the line where there is none
    abbrev pub zone_from : ℕ → ℕ
    zone_from first = elim (ltb edge_beneath (length edges / 4)) [ true ↦ edge_above edges edge_beneath | false ↦ first ]

    -- the vertex that the point equals, else the edge that it lies on, else the zone
    abbrev pub placed : ℕ → Answer
    placed first =
        elim (ltb (vertex_at vertices x y) (length vertices / 2)) [
          | true ↦ Vertex (vertex_at vertices x y)
          | false ↦
              elim (ltb edge_on (length edges / 4)) [ true ↦ Edge edge_on | false ↦ Zone (zone_from first) ]
        ]
