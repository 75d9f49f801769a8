-- The key that the edges are sorted by, from a table of places.
use Rattle.std.specs.Prelude.{List, ℕ, ℤ, get_or}
use Rattle.subdivision.specs.Dyadic.{lca}
use Rattle.subdivision.specs.Sheet.{vertex_x, edge_west, edge_above, edge_below}
use Rattle.theory.proofs.Groups.{pair_key}

-- the key of edge e: its chain, then its western x
unfoldable pub placed_key : List ℤ → List ℕ → List ℕ → ℕ → ℕ
placed_key vertices edges place e =
    pair_key (lca (get_or place (edge_below edges e) 0) (get_or place (edge_above edges e) 0)) (vertex_x vertices (edge_west edges e))
