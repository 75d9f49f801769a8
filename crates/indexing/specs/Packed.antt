-- The words of the index, made from a line of zones by one sort of the edges.
use Rattle.std.specs.Prelude.{List, ◌++◌, ℕ, suc, ◌/◌, ℤ, length}
use Rattle.subdivision.specs.Lists.{tab}
use Rattle.subdivision.specs.Dyadic.{lca}
use Rattle.subdivision.specs.Order.{in_order}
use Rattle.subdivision.specs.Sheet.{vertex_x, edge_west, edge_above, edge_below}
use Rattle.subdivision.specs.ZoneLine.{position}
use Rattle.theory.proofs.Groups.{pair_key, group_start}

module _ (vertices : List ℤ) (edges : List ℕ) (line : List ℕ) where
  -- the key of edge e: its chain, then its western x
  abbrev pub chain_key : ℕ → ℕ
  chain_key e =
      pair_key (lca (position (edge_below edges e) line) (position (edge_above edges e) line)) (vertex_x vertices (edge_west edges e))

  -- the edges, chain after chain, each from west to east
  unfoldable pub packed_edges : List ℕ
  packed_edges = in_order chain_key (length edges / 4)

  -- the words: places, zones, starts, edges
  unfoldable pub packed : List ℕ
  packed =
      tab (λ z. position z line) (length line)
      ++ (line ++ (tab (group_start chain_key packed_edges) (suc (length line)) ++ packed_edges))
