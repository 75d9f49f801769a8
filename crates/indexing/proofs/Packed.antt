-- What is written is `packed`, and on a sheet whose line places every zone that is the index of document 01.
use mathlib.Core.Path.{◌≡◌, refl, sym, ap, ◌∙◌}
use mathlib.Core.Bool.{true, false}
use mathlib.Core.List.{List, ◌++◌}
use Prim.Native.Nat.{ℕ, suc, ◌/◌, ◌<◌}
use lib.Dec.{ltb}
use lib.IntN.{ℤ}
use lib.ListN.{length, get_or}
use borrow.Author.Tests.{lt-ltb}
use Rattle.subdivision.specs.Lists.{tab}
use Rattle.subdivision.specs.Order.{SortedBelow, in_order}
use Rattle.subdivision.specs.Sheet.{Sheet, edge_count, zone_count, x_of, west_of, above_of, edge_above, edge_below}
use Rattle.subdivision.specs.ZoneLine.{position, zone_line}
use Rattle.subdivision.specs.Accepted.{Accepted}
use Rattle.subdivision.specs.Index.{place_of, zone_at, chain_of, start_of, index_words}
use Rattle.theory.proofs.Chains.{edge_key, start_is_group, chains_are_sorted, accepted_line, accepted_above, accepted_west}
use Rattle.theory.proofs.Groups.{group_start, group_start_same}
use Rattle.theory.proofs.Lists.{get_d_tab, is_tab, tab_same}
use Rattle.theory.proofs.Order.{sorted_below, in_order_same}
use Rattle.indexing.specs.Keys.{placed_key}
use Rattle.indexing.specs.Packed.{chain_key, packed_edges, packed}

-- where every number below the line's length is in the line, its place is written
pub places_whole : (line before : List ℕ) → ((z : ℕ) → z < length line → position z line < length line)
    → tab (λ z. elim (ltb (position z line) (length line)) [ true ↦ position z line | false ↦ get_or before z 0 ]) (length line) ≡ tab (λ z. position z line) (length line)
places_whole line before holding =
    tab_same (λ z. elim (ltb (position z line) (length line)) [ true ↦ position z line | false ↦ get_or before z 0 ]) (λ z. position z line) (length line)
    (λ z h. rw (lt-ltb (position z line) (length line) (holding z h)) refl)

module _ (vertices : List ℤ) (edges line : List ℕ)
    (named : (e : ℕ) → e < length edges / 4 → (edge_above edges e < length line) × (edge_below edges e < length line)) where
  -- the table of places
  abbrev written : List ℕ
  written = tab (λ z. position z line) (length line)

  -- the key by the table of places is the key by the line
  key_by_line : (e : ℕ) → e < length edges / 4 → placed_key vertices edges written e ≡ chain_key vertices edges line e
  unfolding placed_key
  key_by_line e h =
      rw (get_d_tab (λ z. position z line) (length line) (edge_below edges e) 0 (named e h).1, get_d_tab (λ z. position z line) (length line) (edge_above edges e) 0 (named e h).0) refl

  -- so the sort is by the line
  order_by_line : in_order (placed_key vertices edges written) (length edges / 4) ≡ packed_edges vertices edges line
  unfolding packed_edges
  order_by_line = in_order_same (placed_key vertices edges written) (chain_key vertices edges line) (length edges / 4) key_by_line

  -- and so are the starts
  starts_by_line : (k : ℕ) → group_start (placed_key vertices edges written) (packed_edges vertices edges line) k ≡ group_start (chain_key vertices edges line) (packed_edges vertices edges line) k
  unfolding packed_edges
  starts_by_line k =
      group_start_same (placed_key vertices edges written) (chain_key vertices edges line) (packed_edges vertices edges line)
      (λ i h. key_by_line (get_or (packed_edges vertices edges line) i 0) (sorted.numbers i (rw sorted.long at h))) k
    where
      sorted : SortedBelow (chain_key vertices edges line) (length edges / 4) (in_order (chain_key vertices edges line) (length edges / 4))
      sorted = sorted_below (chain_key vertices edges line) (length edges / 4)

  -- the four parts are the packed words
  pub parts_packed : (place order starts : List ℕ) → place ≡ written
      → order ≡ in_order (placed_key vertices edges place) (length edges / 4)
      → starts ≡ tab (group_start (placed_key vertices edges place) order) (suc (length line))
      → place ++ (line ++ (starts ++ order)) ≡ packed vertices edges line
  unfolding packed
  parts_packed place order starts p q r =
      let o : order ≡ packed_edges vertices edges line = q ∙ rw p order_by_line in
      let t : starts ≡ tab (group_start (chain_key vertices edges line) (packed_edges vertices edges line)) (suc (length line)) =
      r ∙ rw (p, o) (tab_same (group_start (placed_key vertices edges written) (packed_edges vertices edges line)) (group_start (chain_key vertices edges line) (packed_edges vertices edges line)) (suc (length line)) (λ k h. starts_by_line k)) in
      rw (p, t, o) refl

-- the packed words of a sheet and its line are its index
pub packed_is_index : (s : Sheet) → length (zone_line s) ≡ zone_count s
    → ((e : ℕ) → e < edge_count s → above_of s e < zone_count s)
    → ((e : ℕ) → e < edge_count s → x_of s (west_of s e) < 4294967296)
    → packed s.vertices s.edges (zone_line s) ≡ index_words s
unfolding packed packed_edges index_words place_of zone_at chain_of
packed_is_index s full named small =
    let line : zone_line s ≡ tab (zone_at s) (zone_count s) = is_tab (zone_at s) 0 (zone_line s) (zone_count s) full (λ i h. refl) in
    let starts : tab (group_start (edge_key s) (in_order (edge_key s) (edge_count s))) (suc (zone_count s)) ≡ tab (start_of s) (suc (zone_count s)) =
    tab_same (group_start (edge_key s) (in_order (edge_key s) (edge_count s))) (start_of s) (suc (zone_count s)) (λ k h. sym (start_is_group s small k)) in
    rw (full, chains_are_sorted s small full named, ← starts) (ap (λ (l : List ℕ). tab (place_of s) (zone_count s) ++ (l ++ (tab (group_start (edge_key s) (in_order (edge_key s) (edge_count s))) (suc (zone_count s)) ++ in_order (edge_key s) (edge_count s)))) line)

-- what is written of an accepted sheet is its index
pub accepted_index : (s : Sheet) → Accepted s → packed s.vertices s.edges (zone_line s) ≡ index_words s
accepted_index s a = packed_is_index s (accepted_line s a) (accepted_above s a) (accepted_west s a)
