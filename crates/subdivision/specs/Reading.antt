-- The plain reading of a point, and the three readings that agree with it: document 01, "The plain reading of a point". Points are shifted.
use Rattle.std.specs.Prelude.{true, false, ℕ, ◌+◌, ◌*◌, ◌-◌, ltb, get_or}
use Rattle.subdivision.specs.declared.Answer.{Answer}
use Rattle.subdivision.specs.declared.Answer.TheVariants.{Vertex, Edge, Zone}
use Rattle.subdivision.specs.Formula.{Formula, is_at_most, is_equal, both, holds}
use Rattle.subdivision.specs.Lowest.{lowest}
use Rattle.subdivision.specs.Sheet.{Sheet, west_margin, east_margin, vertex_count, edge_count, zone_count, x_of, y_of, above_of, below_of, segment}
use Rattle.subdivision.specs.Lines.{covers, covers_west, is_above, is_below, is_on}
use Rattle.subdivision.specs.Neighbours.{is_highest, is_lowest}
use Rattle.subdivision.specs.Limits.{Limits, limits}
use Rattle.subdivision.specs.Rules.{in_range_under}
use Rattle.subdivision.specs.ZoneLine.{zone_line}

module _ (s : Sheet) where
  -- the point is on the sheet, under limits: W <= x <= E and y in range
  abbrev pub on_sheet_under : Limits → ℕ → ℕ → Formula
  on_sheet_under l x y = both (both (is_at_most (west_margin s) x) (is_at_most x (east_margin s))) (in_range_under l y)

  -- the point is on the sheet: W <= x <= E and y in range; refusal 20 is given exactly when it is not
  abbrev pub on_sheet : ℕ → ℕ → Formula
  on_sheet x y = on_sheet_under limits x y

  -- the first zone in the line of rule 7
  unfoldable pub first_zone : ℕ
  first_zone = get_or (zone_line s) 0 0

  -- the last zone in the line of rule 7
  unfoldable pub last_zone : ℕ
  last_zone = get_or (zone_line s) (zone_count s - 1) 0

  -- the doubled line x + 1/2, or x - 1/2 at E
  abbrev pub reading_line : ℕ → ℕ
  reading_line x = elim (ltb x (east_margin s)) [ true ↦ 2 * x + 1 | false ↦ 2 * x - 1 ]

  -- vertex v is the point
  abbrev pub is_vertex : ℕ → ℕ → ℕ → Formula
  is_vertex x y v = both (is_equal (x_of s v) x) (is_equal (y_of s v) y)

  -- edge e covers x and is strictly below the point
  abbrev pub beneath : ℕ → ℕ → ℕ → Formula
  beneath x y e = both (covers (east_margin s) (segment s e) x) (is_above (segment s e) x y)

  -- edge e covers x and is strictly above the point
  abbrev pub overhead : ℕ → ℕ → ℕ → Formula
  overhead x y e = both (covers (east_margin s) (segment s e) x) (is_below (segment s e) x y)

  -- edge e has the western reading's cover of x and is strictly below the point
  abbrev pub beneath_west : ℕ → ℕ → ℕ → Formula
  beneath_west x y e = both (covers_west (segment s e) x) (is_above (segment s e) x y)

  -- edge e has the western reading's cover of x and is strictly above the point
  abbrev pub overhead_west : ℕ → ℕ → ℕ → Formula
  overhead_west x y e = both (covers_west (segment s e) x) (is_below (segment s e) x y)

  -- the zone read from an edge found by a test, above it or below it; another zone where no edge is found
  abbrev pub read_from : (ℕ → Formula) → (ℕ → ℕ) → ℕ → ℕ
  read_from is_found zone_of other =
      elim (ltb (lowest (λ e. holds (is_found e)) (edge_count s)) (edge_count s)) [ true ↦ zone_of (lowest (λ e. holds (is_found e)) (edge_count s)) | false ↦ other ]

  -- of the covering edges strictly below the point, the zone above the one highest on the line x + 1/2; with none, the first zone
  unfoldable pub zone_beneath : ℕ → ℕ → ℕ
  zone_beneath x y = read_from (is_highest s (reading_line x) (beneath x y)) (above_of s) first_zone

  -- of the covering edges strictly above the point, the zone below the one lowest on the line x + 1/2; with none, the last zone
  unfoldable pub zone_overhead : ℕ → ℕ → ℕ
  zone_overhead x y = read_from (is_lowest s (reading_line x) (overhead x y)) (below_of s) last_zone

  -- the western reading from beneath, on the line x - 1/2
  unfoldable pub zone_beneath_west : ℕ → ℕ → ℕ
  zone_beneath_west x y = read_from (is_highest s (2 * x - 1) (beneath_west x y)) (above_of s) first_zone

  -- the western reading from overhead, on the line x - 1/2
  unfoldable pub zone_overhead_west : ℕ → ℕ → ℕ
  zone_overhead_west x y = read_from (is_lowest s (2 * x - 1) (overhead_west x y)) (below_of s) last_zone

  -- the plain reading: the vertex that the point equals, else the edge that it lies on, else the zone read from beneath
  unfoldable pub plain_reading : ℕ → ℕ → Answer
  plain_reading x y =
      elim (ltb v (vertex_count s)) [ true ↦ Vertex v | false ↦ elim (ltb e (edge_count s)) [ true ↦ Edge e | false ↦ Zone (zone_beneath x y) ] ]
    where
      v : ℕ
      v = lowest (λ u. holds (is_vertex x y u)) (vertex_count s)

      e : ℕ
      e = lowest (λ f. holds (is_on (segment s f) x y)) (edge_count s)
