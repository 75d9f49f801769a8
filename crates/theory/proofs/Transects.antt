-- The transect at an abscissa: its nodes, which are the vertices on it and the edges that pass it, and the zones on their two sides.
use mathlib.Core.Path.{◌≡◌}
use mathlib.Core.Logic.{◌⊎◌}
use Prim.Native.Nat.{ℕ, ◌*◌, ◌<◌}
use Rattle.subdivision.specs.Sheet.{Sheet, vertex_count, edge_count, x_of, y_of, west_of, east_of, above_of, below_of, segment}
use Rattle.subdivision.specs.Lines.{width, edge_part}
use Rattle.subdivision.specs.Rules.{line_west_of, line_east_of}
use Rattle.subdivision.specs.Accepted.{Highest, Lowest, Western, Eastern}

-- a node of a transect: a vertex on it, or an edge that passes it
pub data Node : Type 0 where
  corner : ℕ → Node
  passing : ℕ → Node

module _ (s : Sheet) where
  -- the node is on the transect at the abscissa x
  abbrev pub OnTransect : ℕ → Node → Type 0
  OnTransect x (corner v) = (v < vertex_count s) × (x_of s v ≡ x)
  OnTransect x (passing e) = (e < edge_count s) × ((x_of s (west_of s e) < x) × (x < x_of s (east_of s e)))

  -- the height of a node at the abscissa x, multiplied by its width
  abbrev pub node_part : ℕ → Node → ℕ
  node_part x (corner v) = y_of s v
  node_part x (passing e) = edge_part (segment s e) x

  -- the width by which a node's height is multiplied: 1 of a vertex
  abbrev pub node_width : Node → ℕ
  node_width (corner v) = 1
  node_width (passing e) = width (segment s e)

  -- one node is lower than another at the abscissa x: both heights multiplied out by the two widths
  abbrev pub LowerNode : ℕ → Node → Node → Type 0
  LowerNode x p q = node_part x p * node_width q < node_part x q * node_width p

  -- two nodes are equally high at the abscissa x
  abbrev pub LevelNode : ℕ → Node → Node → Type 0
  LevelNode x p q = node_part x p * node_width q ≡ node_part x q * node_width p

  -- q is the next node up from p on the transect at x
  abbrev pub NextNode : ℕ → Node → Node → Type 0
  NextNode x p q =
      (OnTransect x p × OnTransect x q)
      × (LowerNode x p q × ((r : Node) → OnTransect x r → LowerNode x p r → LowerNode x r q → ⊥))

  -- no node of the transect at x is higher
  abbrev pub NoneHigher : ℕ → Node → Type 0
  NoneHigher x p = (q : Node) → OnTransect x q → LowerNode x p q → ⊥

  -- no node of the transect at x is lower
  abbrev pub NoneLower : ℕ → Node → Type 0
  NoneLower x p = (q : Node) → OnTransect x q → LowerNode x q p → ⊥

  -- zone z is over a node: the zone above a passing edge, or above the top edge of a vertex, on its west or on its east
  abbrev pub ZoneOver : Node → ℕ → Type 0
  ZoneOver (corner v) z =
      (e : ℕ) × (e < edge_count s) × ((Highest s (line_west_of s v) (Western s v) e ⊎ Highest s (line_east_of s v) (Eastern s v) e) × (above_of s e ≡ z))
  ZoneOver (passing e) z = above_of s e ≡ z

  -- zone z is under a node: the zone below a passing edge, or below the bottom edge of a vertex, on its west or on its east
  abbrev pub ZoneUnder : Node → ℕ → Type 0
  ZoneUnder (corner v) z =
      (e : ℕ) × (e < edge_count s) × ((Lowest s (line_west_of s v) (Western s v) e ⊎ Lowest s (line_east_of s v) (Eastern s v) e) × (below_of s e ≡ z))
  ZoneUnder (passing e) z = below_of s e ≡ z
