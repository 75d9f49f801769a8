-- The tables of a sheet as they are lent: document 01, "What a sheet is".
use Rattle.std.specs.Prelude.{List, ℕ, ◌+◌, ◌*◌, ◌-◌, ◌/◌, ℤ, pos, negsuc, length, get_or}
use Rattle.subdivision.specs.declared.Segment.{Segment}
use Rattle.subdivision.specs.Limits.{origin}

-- a signed number as a natural one; of 32-bit numbers it keeps order and differences
abbrev pub shifted : ℤ → ℕ
shifted (pos n) = origin + n
shifted (negsuc n) = origin - (n + 1)

-- two margins, the flat words of the vertices (x, y) and edges (western vertex, eastern vertex, zone above, zone below), the number of zones
pub record Sheet : Type 0 where
  pub west : ℤ
  pub east : ℤ
  pub vertices : List ℤ
  pub edges : List ℕ
  pub zones : ℕ

-- the sheet of lent margins, tables and number of zones
abbrev pub sheet_of : ℤ → ℤ → List ℤ → List ℕ → ℕ → Sheet
sheet_of west east vertices edges zones = record { west = west; east = east; vertices = vertices; edges = edges; zones = zones }

-- x of vertex v, shifted
abbrev pub vertex_x : List ℤ → ℕ → ℕ
vertex_x vertices v = shifted (get_or vertices (2 * v) (pos 0))

-- y of vertex v, shifted
abbrev pub vertex_y : List ℤ → ℕ → ℕ
vertex_y vertices v = shifted (get_or vertices (2 * v + 1) (pos 0))

-- the western vertex of edge e
abbrev pub edge_west : List ℕ → ℕ → ℕ
edge_west edges e = get_or edges (4 * e) 0

-- the eastern vertex of edge e
abbrev pub edge_east : List ℕ → ℕ → ℕ
edge_east edges e = get_or edges (4 * e + 1) 0

-- the zone above edge e
abbrev pub edge_above : List ℕ → ℕ → ℕ
edge_above edges e = get_or edges (4 * e + 2) 0

-- the zone below edge e
abbrev pub edge_below : List ℕ → ℕ → ℕ
edge_below edges e = get_or edges (4 * e + 3) 0

-- edge e with its ends: the vertices that it names, and their coordinates
abbrev pub segment_of : List ℤ → List ℕ → ℕ → Segment
segment_of vertices edges e =
    record { west = edge_west edges e; east = edge_east edges e; xw = vertex_x vertices (edge_west edges e); yw = vertex_y vertices (edge_west edges e); xe = vertex_x vertices (edge_east edges e); ye = vertex_y vertices (edge_east edges e) }

module _ (s : Sheet) where
  -- W, shifted
  abbrev pub west_margin : ℕ
  west_margin = shifted s.west

  -- E, shifted
  abbrev pub east_margin : ℕ
  east_margin = shifted s.east

  -- V, the number of vertices
  abbrev pub vertex_count : ℕ
  vertex_count = length s.vertices / 2

  -- m, the number of edges
  abbrev pub edge_count : ℕ
  edge_count = length s.edges / 4

  -- n, the number of zones
  abbrev pub zone_count : ℕ
  zone_count = s.zones

  -- x of vertex v
  abbrev pub x_of : ℕ → ℕ
  x_of v = vertex_x s.vertices v

  -- y of vertex v
  abbrev pub y_of : ℕ → ℕ
  y_of v = vertex_y s.vertices v

  -- the western vertex of edge e
  abbrev pub west_of : ℕ → ℕ
  west_of e = edge_west s.edges e

  -- the eastern vertex of edge e
  abbrev pub east_of : ℕ → ℕ
  east_of e = edge_east s.edges e

  -- the zone above edge e
  abbrev pub above_of : ℕ → ℕ
  above_of e = edge_above s.edges e

  -- the zone below edge e
  abbrev pub below_of : ℕ → ℕ
  below_of e = edge_below s.edges e

  -- edge e with its ends
  abbrev pub segment : ℕ → Segment
  segment e = segment_of s.vertices s.edges e
