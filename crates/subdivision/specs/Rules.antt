-- Rules 1 to 6 of document 01, "Rules of an accepted sheet", each clause by the item that a refusal charges it to.
use Rattle.std.specs.Prelude.{ℕ, ◌+◌, ◌*◌, ◌-◌}
use Rattle.subdivision.specs.Limits.{Limits, limits, lowest_under, highest_under}
use Rattle.subdivision.specs.Formula.{Formula, is_less, is_at_most, is_equal, both, either, implies, not_so, every_below, some_below}
use Rattle.subdivision.specs.Sheet.{Sheet, west_margin, east_margin, vertex_count, edge_count, zone_count, x_of, y_of, west_of, east_of, above_of, below_of, segment}
use Rattle.subdivision.specs.Lines.{conflict}
use Rattle.subdivision.specs.Neighbours.{is_highest, is_lowest, is_next_up}

-- a shifted coordinate is in range, under limits
abbrev pub in_range_under : Limits → ℕ → Formula
in_range_under l c = both (is_at_most (lowest_under l) c) (is_at_most c (highest_under l))

-- a shifted coordinate is in range
abbrev pub in_range : ℕ → Formula
in_range c = in_range_under limits c

-- rule 1, under limits: vertex v is in range and W <= x <= E
abbrev pub vertex_inside_under : Limits → Sheet → ℕ → Formula
vertex_inside_under l s v =
    both (both (in_range_under l (x_of s v)) (in_range_under l (y_of s v)))
    (both (is_at_most (west_margin s) (x_of s v)) (is_at_most (x_of s v) (east_margin s)))

module _ (s : Sheet) where
  -- rule 1: vertex v is in range and W <= x <= E
  abbrev pub vertex_inside : ℕ → Formula
  vertex_inside v = vertex_inside_under limits s v

  -- rule 1: vertex v is the same point as no earlier one
  abbrev pub vertex_new : ℕ → Formula
  vertex_new v = every_below v (λ u. not_so (both (is_equal (x_of s u) (x_of s v)) (is_equal (y_of s u) (y_of s v))))

  -- rule 2: edge e names vertices and zones that exist
  abbrev pub edge_names : ℕ → Formula
  edge_names e =
      both (both (is_less (west_of s e) (vertex_count s)) (is_less (east_of s e) (vertex_count s)))
      (both (is_less (above_of s e) (zone_count s)) (is_less (below_of s e) (zone_count s)))

  -- rule 2: edge e runs strictly west to east
  abbrev pub edge_runs : ℕ → Formula
  edge_runs e = is_less (x_of s (west_of s e)) (x_of s (east_of s e))

  -- rule 2: edge e has different zones above and below
  abbrev pub zones_differ : ℕ → Formula
  zones_differ e = not_so (is_equal (above_of s e) (below_of s e))

  -- edge e is a western edge of vertex v: it ends there
  abbrev pub western_edge : ℕ → ℕ → Formula
  western_edge v e = is_equal (east_of s e) v

  -- edge e is an eastern edge of vertex v: it starts there
  abbrev pub eastern_edge : ℕ → ℕ → Formula
  eastern_edge v e = is_equal (west_of s e) v

  -- vertex v has an edge on its west
  abbrev pub has_western : ℕ → Formula
  has_western v = some_below (edge_count s) (western_edge v)

  -- vertex v has an edge on its east
  abbrev pub has_eastern : ℕ → Formula
  has_eastern v = some_below (edge_count s) (eastern_edge v)

  -- rule 3: with W < x < E an edge on its west and one on its east; at W an eastern edge, at E a western one
  abbrev pub vertex_regular : ℕ → Formula
  vertex_regular v =
      both (implies (both (is_less (west_margin s) (x_of s v)) (is_less (x_of s v) (east_margin s))) (both (has_western v) (has_eastern v)))
      (both (implies (is_equal (x_of s v) (west_margin s)) (has_eastern v)) (implies (is_equal (x_of s v) (east_margin s)) (has_western v)))

  -- rule 4: edge e is in conflict with no lower-numbered edge
  abbrev pub edge_clear : ℕ → Formula
  edge_clear e = every_below e (λ f. not_so (conflict (segment s f) (segment s e)))

  -- the doubled line x - 1/2 beside vertex v
  abbrev pub line_west_of : ℕ → ℕ
  line_west_of v = 2 * x_of s v - 1

  -- the doubled line x + 1/2 beside vertex v
  abbrev pub line_east_of : ℕ → ℕ
  line_east_of v = 2 * x_of s v + 1

  -- from bottom to top on a line, each edge's zone above is the next one's zone below
  abbrev pub fan_agrees : ℕ → (ℕ → Formula) → Formula
  fan_agrees c among =
      every_below (edge_count s) (λ e. every_below (edge_count s) (λ f. implies (is_next_up s c among e f) (is_equal (above_of s e) (below_of s f))))

  -- rule 5, the western fan of vertex v
  abbrev pub western_names : ℕ → Formula
  western_names v = fan_agrees (line_west_of v) (western_edge v)

  -- rule 5, the eastern fan of vertex v
  abbrev pub eastern_names : ℕ → Formula
  eastern_names v = fan_agrees (line_east_of v) (eastern_edge v)

  -- rule 5, tops and bottoms: the top western and top eastern edge of vertex v have the same zone above, the two bottom ones the same zone below
  abbrev pub tops_and_bottoms : ℕ → Formula
  tops_and_bottoms v =
      every_below (edge_count s) (λ e. every_below (edge_count s) (λ f.
      both (implies (both (is_highest s (line_west_of v) (western_edge v) e) (is_highest s (line_east_of v) (eastern_edge v) f)) (is_equal (above_of s e) (above_of s f)))
      (implies (both (is_lowest s (line_west_of v) (western_edge v) e) (is_lowest s (line_east_of v) (eastern_edge v) f)) (is_equal (below_of s e) (below_of s f)))))

  -- vertices v and u are at W, and u is the next one up the margin from v
  abbrev pub next_on_margin : ℕ → ℕ → Formula
  next_on_margin v u =
      both (both (is_equal (x_of s v) (west_margin s)) (is_equal (x_of s u) (west_margin s)))
      (both (is_less (y_of s v) (y_of s u))
      (every_below (vertex_count s) (λ t. implies (both (is_equal (x_of s t) (west_margin s)) (is_less (y_of s v) (y_of s t))) (is_at_most (y_of s u) (y_of s t)))))

  -- rule 5, the margin: at W, the zone above the top eastern edge of vertex v is the zone below the bottom eastern edge of the next vertex up
  abbrev pub margin_names : ℕ → Formula
  margin_names v =
      every_below (vertex_count s) (λ u. implies (next_on_margin v u)
      (every_below (edge_count s) (λ e. every_below (edge_count s) (λ f.
      implies (both (is_highest s (line_east_of v) (eastern_edge v) e) (is_lowest s (line_east_of u) (eastern_edge u) f)) (is_equal (above_of s e) (below_of s f))))))

  -- rule 5 at vertex v, its four clauses
  abbrev pub names_agree : ℕ → Formula
  names_agree v = both (both (western_names v) (eastern_names v)) (both (tops_and_bottoms v) (margin_names v))

  -- the sheet excepted in rule 6: n = 1, V = 0, m = 0
  abbrev pub empty_sheet : Formula
  empty_sheet = both (is_equal (zone_count s) 1) (both (is_equal (vertex_count s) 0) (is_equal (edge_count s) 0))

  -- rule 6: zone z is named by some edge, but on the sheet excepted
  abbrev pub zone_named : ℕ → Formula
  zone_named z =
      either (some_below (edge_count s) (λ e. either (is_equal (above_of s e) z) (is_equal (below_of s e) z))) empty_sheet

  -- rule 1: every vertex is in range and W <= x <= E; no two are the same point
  abbrev pub rule1 : Formula
  rule1 = both (every_below (vertex_count s) vertex_inside) (every_below (vertex_count s) vertex_new)

  -- rule 2: each edge names vertices and zones that exist, runs strictly west to east, and has different zones above and below
  abbrev pub rule2 : Formula
  rule2 =
      both (every_below (edge_count s) edge_names)
      (both (every_below (edge_count s) edge_runs) (every_below (edge_count s) zones_differ))

  -- rule 3: every vertex is regular
  abbrev pub rule3 : Formula
  rule3 = every_below (vertex_count s) vertex_regular

  -- rule 4: no two edges share a point but a common end
  abbrev pub rule4 : Formula
  rule4 = every_below (edge_count s) edge_clear

  -- rule 5: names agree at each vertex
  abbrev pub rule5 : Formula
  rule5 = every_below (vertex_count s) names_agree

  -- rule 6: every zone is named by some edge
  abbrev pub rule6 : Formula
  rule6 = every_below (zone_count s) zone_named
