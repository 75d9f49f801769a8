-- The index: document 01, "Index and descent", first paragraph.
use Rattle.std.specs.Prelude.{List, [], ◌++◌, ℕ, zero, suc, eqb, length, get_or}
use Rattle.subdivision.specs.Lists.{tab, keep}
use Rattle.subdivision.specs.Dyadic.{lca}
use Rattle.subdivision.specs.Order.{in_order}
use Rattle.subdivision.specs.Sheet.{Sheet, edge_count, zone_count, x_of, west_of, above_of, below_of}
use Rattle.subdivision.specs.ZoneLine.{position, zone_line}

module _ (s : Sheet) where
  -- the place of zone z in the line of rule 7
  unfoldable pub place_of : ℕ → ℕ
  place_of z = position z (zone_line s)

  -- the zone at place p in the line of rule 7
  unfoldable pub zone_at : ℕ → ℕ
  zone_at p = get_or (zone_line s) p 0

  -- the number of the chain that edge e is stored in
  unfoldable pub chain_of : ℕ → ℕ
  chain_of e = lca (place_of (below_of s e)) (place_of (above_of s e))

  -- all edges from west to east: by western x, then by number
  unfoldable pub eastward : List ℕ
  eastward = in_order (λ e. x_of s (west_of s e)) (edge_count s)

  -- chain k: all edges whose lca is k, from west to east
  unfoldable pub chain : ℕ → List ℕ
  chain k = keep (λ e. eqb (chain_of e) k) eastward

  -- the chains below k, one after the other
  abbrev pub chains_below : ℕ → List ℕ
  chains_below zero = []
  chains_below (suc k) = chains_below k ++ chain k

  -- start k: where the entries of chain k begin
  unfoldable pub start_of : ℕ → ℕ
  start_of k = length (chains_below k)

  -- entry t of the chains
  unfoldable pub entry_at : ℕ → ℕ
  entry_at t = get_or (chains_below (zone_count s)) t 0

  -- the 3n + m + 1 words of the index: the place of each zone, the zone at each place, n + 1 chain starts, the m edge numbers
  unfoldable pub index_words : List ℕ
  index_words = tab place_of (zone_count s) ++ (tab zone_at (zone_count s) ++ (tab start_of (suc (zone_count s)) ++ chains_below (zone_count s)))
