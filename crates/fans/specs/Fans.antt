-- The fans of a vertex as lists of edges, and rule 5 read off them by order tests.
use Rattle.std.specs.Prelude.{◌≡◌, Bool, true, false, not, List, [], ◌∷◌, ℕ, suc, ◌-◌, ◌/◌, min, eqb, ℤ, length, get_or}
use Rattle.subdivision.specs.Formula.{Formula, is_less, is_equal, both, either, implies, not_so, every_below, holds}
use Rattle.subdivision.specs.Lists.{tab}
use Rattle.subdivision.specs.Lowest.{lowest}
use Rattle.subdivision.specs.Order.{in_order}
use Rattle.subdivision.specs.Sheet.{vertex_x, vertex_y, edge_west, edge_east, edge_above, edge_below, segment_of}
use Rattle.geometry.specs.Crossing.{lower_beside}
use Rattle.theory.proofs.Groups.{pair_key, group_start, group}
use Rattle.theory.proofs.Lowest.{least_of}

-- the end of edge e by which it belongs to a fan: its western vertex has it in the eastern fan, its eastern vertex in the western one
abbrev pub fan_end : List ℕ → Bool → ℕ → ℕ
fan_end edges eastern e = elim eastern [ true ↦ edge_west edges e | false ↦ edge_east edges e ]

-- the key that puts the edges of one fan side by side
abbrev pub fan_key : List ℕ → Bool → ℕ → ℕ
fan_key edges eastern e = pair_key (fan_end edges eastern e) 0

module _ (vertices : List ℤ) (edges : List ℕ) where
  -- edge e is lower than edge f beside the vertex of their fan
  abbrev pub is_under : Bool → ℕ → ℕ → Bool
  is_under eastern e f = holds (lower_beside eastern (segment_of vertices edges e) (segment_of vertices edges f))

  -- edge f is further up than edge e (up), or further down
  abbrev pub goes_on : Bool → Bool → ℕ → ℕ → Bool
  goes_on eastern up e f = elim up [ true ↦ is_under eastern e f | false ↦ is_under eastern f e ]

  -- the furthest edge up or down a list, from the furthest so far
  abbrev pub furthest_from : Bool → Bool → ℕ → List ℕ → ℕ
  furthest_from eastern up best [] = best
  furthest_from eastern up best (e ∷ es) =
      elim (goes_on eastern up best e) [ true ↦ furthest_from eastern up e es | false ↦ furthest_from eastern up best es ]

  -- the top edge (up) or the bottom edge of a fan
  abbrev pub furthest : Bool → Bool → List ℕ → ℕ
  furthest eastern up fan = furthest_from eastern up (get_or fan 0 0) fan

  -- of the next edge up found so far (e itself where none is) and edge f, the next one up from e
  abbrev pub nearer : Bool → ℕ → ℕ → ℕ → ℕ
  nearer eastern e best f =
      elim (is_under eastern e f) [
        | false ↦ best
        | true ↦ elim (eqb best e) [ true ↦ f | false ↦ elim (is_under eastern f best) [ true ↦ f | false ↦ best ] ]
      ]

  -- the next edge up from e in a list, from the next found so far
  abbrev pub next_from : Bool → ℕ → ℕ → List ℕ → ℕ
  next_from eastern e best [] = best
  next_from eastern e best (f ∷ fs) = next_from eastern e (nearer eastern e best f) fs

  -- the next edge up from e in a fan; e itself where none is
  abbrev pub next_in : Bool → List ℕ → ℕ → ℕ
  next_in eastern fan e = next_from eastern e e fan

  -- edge e is the top of its fan, or its zone above is the next one's zone below
  abbrev pub tied : Bool → List ℕ → ℕ → Formula
  tied eastern fan e =
      either (is_equal (next_in eastern fan e) e) (is_equal (edge_above edges e) (edge_below edges (next_in eastern fan e)))

  -- rule 5 in a fan: from bottom to top, each edge's zone above is the next one's zone below
  abbrev pub fan_tied : Bool → List ℕ → Formula
  fan_tied eastern fan = every_below (length fan) (λ i. tied eastern fan (get_or fan i 0))

  -- two fans have edges
  abbrev pub both_drawn : List ℕ → List ℕ → Formula
  both_drawn one other = both (is_less 0 (length one)) (is_less 0 (length other))

  -- rule 5 between the fans of a vertex: the two tops have the same zone above, the two bottoms the same zone below
  abbrev pub fans_tied : List ℕ → List ℕ → Formula
  fans_tied western eastern =
      implies (both_drawn western eastern)
      (both (is_equal (edge_above edges (furthest false true western)) (edge_above edges (furthest true true eastern)))
      (is_equal (edge_below edges (furthest false false western)) (edge_below edges (furthest true false eastern))))

  -- rule 5 at a vertex, but for the margin
  abbrev pub vertex_tied : List ℕ → List ℕ → Formula
  vertex_tied western eastern = both (both (fan_tied false western) (fan_tied true eastern)) (fans_tied western eastern)

  -- rule 5 on the margin: the zone above the top of the lower eastern fan is the zone below the bottom of the upper one
  abbrev pub margin_tied : List ℕ → List ℕ → Formula
  margin_tied under over =
      implies (both_drawn under over) (is_equal (edge_above edges (furthest true true under)) (edge_below edges (furthest true false over)))

-- the zone above edge e, or the one below it
abbrev pub zone_beside : List ℕ → Bool → ℕ → ℕ
zone_beside edges above e = elim above [ true ↦ edge_above edges e | false ↦ edge_below edges e ]

-- the edges in order of their fans on one side: of the vertex that has them there, then of number
abbrev pub fan_order : List ℕ → Bool → List ℕ
fan_order edges eastern = in_order (fan_key edges eastern) (length edges / 4)

-- the fan of vertex v on one side
abbrev pub fan_of : List ℕ → Bool → ℕ → List ℕ
fan_of edges eastern v = group (fan_key edges eastern) (fan_order edges eastern) v

-- a list has the edges in order of their fans on one side, and another where the fan of each vertex starts in it
abbrev pub AreFans : List ℕ → Bool → List ℕ → List ℕ → Type 0
AreFans edges eastern order starts =
    (order ≡ fan_order edges eastern) × (starts ≡ tab (group_start (fan_key edges eastern) (fan_order edges eastern)) (length starts))

-- the first vertices in order of x, then y, then number
abbrev pub point_order : List ℤ → ℕ → List ℕ
point_order vertices count = in_order (λ v. pair_key (vertex_x vertices v) (vertex_y vertices v)) count

-- rule 5 is broken at vertex v, but for the margin
unfoldable pub vertex_fault : List ℤ → List ℕ → ℕ → Bool
vertex_fault vertices edges v = not (holds (vertex_tied vertices edges (fan_of edges false v) (fan_of edges true v)))

-- rule 5 is broken on the margin by two vertices, the one after the other in order
abbrev pub fault_between : ℕ → List ℤ → List ℕ → ℕ → ℕ → Bool
fault_between west vertices edges under over =
    holds
    (both (both (is_equal (vertex_x vertices under) west) (is_equal (vertex_x vertices over) west))
    (not_so (margin_tied vertices edges (fan_of edges true under) (fan_of edges true over))))

-- rule 5 is broken on the margin by the vertices at a place and at the next place of a list
abbrev pub margin_fault : ℕ → List ℤ → List ℕ → List ℕ → ℕ → Bool
margin_fault west vertices edges points i = fault_between west vertices edges (get_or points i 0) (get_or points (suc i) 0)

-- the lowest vertex at which rule 5 is broken; the number of vertices where it is not
abbrev pub names_fault : ℕ → List ℤ → List ℕ → ℕ
names_fault west vertices edges =
    min (lowest (vertex_fault vertices edges) (length vertices / 2))
    (least_of (margin_fault west vertices edges (point_order vertices (length vertices / 2))) (λ i. get_or (point_order vertices (length vertices / 2)) i 0) (length vertices / 2 - 1) (length vertices / 2))
