-- A chain of an accepted sheet, from west to east: what its edges cover does not overlap, and its probes find the covering edge.
use mathlib.Core.Path.{◌≡◌, sym, ap, ◌∙◌}
use mathlib.Core.List.{List}
use mathlib.Core.Logic.{inl, inr}
use Prim.Native.Nat.{ℕ, suc, ◌+◌, ◌<◌, ◌≤◌}
use native.Mathlib.Nat.{le_refl}
use native.Mathlib.Numerals.{add-one}
use native.Mathlib.Omega.{arith, by_contra}
use lib.ListN.{length, get_or}
use borrow.Author.Tests.{lt-ltb, le-ltb}
use Rattle.subdivision.specs.Results.{covered}
use Rattle.subdivision.specs.declared.Look.TheVariants.{West, Covering, Beyond}
use Rattle.std.specs.Prelude.{Option, Some, None}
use Rattle.subdivision.specs.Accepted.{Accepted}
use Rattle.subdivision.specs.Descent.{look, probe_chain, table_look_ups}
use Rattle.subdivision.specs.Index.{place_of, chain_of, start_of, entry_at}
use Rattle.subdivision.specs.Lines.{covers}
use Rattle.subdivision.specs.Order.{Before, SortedBelow, in_order}
use Rattle.subdivision.specs.Placed.{Covers}
use Rattle.subdivision.specs.Sheet.{Sheet, west_margin, east_margin, edge_count, x_of, west_of, east_of, above_of, below_of, segment}
use Rattle.theory.proofs.Chains.{edge_key, start_is_group, chains_are_sorted, accepted_line, accepted_above, accepted_west}
use Rattle.theory.proofs.Columns.{Kept}
use Rattle.theory.proofs.Decide.{held, fails}
use Rattle.theory.proofs.Drawn.{accepted_drawn, drawing_of}
use Rattle.theory.proofs.DrawnRules.{drawn_kept}
use Rattle.theory.proofs.Dyadic.{lca_le, lca_above}
use Rattle.theory.proofs.Groups.{group_start, group, group_start_le, group_start_rises, before_group, from_group, length_group, get_d_group, group_holds}
use Rattle.theory.proofs.Order.{before_irrefl, sorted_below}
use Rattle.theory.proofs.Places.{place_rises}
use Rattle.theory.proofs.Probes.{probe_finds}
use Rattle.theory.proofs.Separators.{separator_one}

module _ (s : Sheet) (a : Accepted s) where
  -- ---- the entries of a chain

  -- the edges by chain, then by western x, then by number
  abbrev order : List ℕ
  order = in_order (edge_key s) (edge_count s)

  in_order_lem : SortedBelow (edge_key s) (edge_count s) order
  in_order_lem = sorted_below (edge_key s) (edge_count s)

  start_in_order : (k : ℕ) → start_of s k ≡ group_start (edge_key s) order k
  start_in_order = start_is_group s (accepted_west s a)

  entry_in_order : (t : ℕ) → entry_at s t ≡ get_or order t 0
  unfolding entry_at
  entry_in_order t = ap (λ (l : List ℕ). get_or l t 0) (chains_are_sorted s (accepted_west s a) (accepted_line s a) (accepted_above s a))

  -- the next chain starts at the same entry or a later one
  pub start_rises : (k : ℕ) → start_of s k ≤ start_of s (k + 1)
  start_rises k = rw (add-one k, start_in_order k, start_in_order (suc k)) (group_start_rises (edge_key s) order k)

  -- no chain starts past the edges
  pub start_within : (k : ℕ) → start_of s k ≤ edge_count s
  start_within k = omega (arith, start_in_order k, group_start_le (edge_key s) order k, in_order_lem.long)

  -- an entry of chain k is an edge of it
  pub entry_in_chain : (k t : ℕ) → start_of s k ≤ t → t < start_of s (k + 1) → (entry_at s t < edge_count s) × (chain_of s (entry_at s t) ≡ k)
  entry_in_chain k t low high = rw (entry_in_order t) (edge, same)
    where
      from : group_start (edge_key s) order k ≤ t
      from = rw (start_in_order k) at low

      before : t < group_start (edge_key s) order (suc k)
      before = rw (add-one k, start_in_order (suc k)) at high

      within : t < edge_count s
      within = omega (arith, before, group_start_le (edge_key s) order (suc k), in_order_lem.long)

      edge : get_or order t 0 < edge_count s
      edge = in_order_lem.numbers t within

      same : chain_of s (get_or order t 0) ≡ k
      same =
          omega (arith, accepted_west s a (get_or order t 0) edge, from_group (edge_key s) order (edge_count s) in_order_lem k t from within, before_group (edge_key s) order (suc k) t before)

  -- an edge of chain k is an entry of it
  pub chain_has_entry : (k e : ℕ) → e < edge_count s → chain_of s e ≡ k → (t : ℕ) × ((start_of s k ≤ t) × (t < start_of s (k + 1))) × (entry_at s t ≡ e)
  chain_has_entry k e b same = go (group_holds (edge_key s) order (edge_count s) in_order_lem k e b (omega arith) (omega (arith, accepted_west s a e b)))
    where
      go : (i : ℕ) × (i < length (group (edge_key s) order k)) × (get_or (group (edge_key s) order k) i 0 ≡ e)
          → (t : ℕ) × ((start_of s k ≤ t) × (t < start_of s (k + 1))) × (entry_at s t ≡ e)
      go (i, c, q) = (start_of s k + i, (omega arith, before), found)
        where
          before : start_of s k + i < start_of s (k + 1)
          before = rw (add-one k) (omega (arith, start_in_order k, start_in_order (suc k), length_group (edge_key s) order k))

          found : entry_at s (start_of s k + i) ≡ e
          found = rw (entry_in_order (start_of s k + i), start_in_order k) (sym (get_d_group (edge_key s) order k i c) ∙ q)

  -- ---- from west to east

  -- an edge separates at its chain
  chain_separates : (e : ℕ) → e < edge_count s → (place_of s (below_of s e) < chain_of s e) × (chain_of s e ≤ place_of s (above_of s e))
  unfolding chain_of
  chain_separates e b =
      (lca_above (place_of s (below_of s e)) (place_of s (above_of s e)) (place_rises s a e b), lca_le (place_of s (below_of s e)) (place_of s (above_of s e)))

  kept : Kept (drawing_of s)
  kept = drawn_kept s (accepted_drawn s a)

  -- an edge runs to the east, between the margins
  inside : (e : ℕ) → e < edge_count s
      → ((west_margin s ≤ x_of s (west_of s e)) × (x_of s (west_of s e) < x_of s (east_of s e))) × (x_of s (east_of s e) ≤ east_margin s)
  inside = kept.inside

  -- of two edges of a chain that come in this order the first ends where the second starts, or west of it
  before_eastward : (e f : ℕ) → e < edge_count s → f < edge_count s → chain_of s e ≡ chain_of s f → Before (edge_key s) e f
      → x_of s (east_of s e) ≤ x_of s (west_of s f)
  before_eastward e f b c same first = by_contra (x_of s (east_of s e)) (x_of s (west_of s f)) apart
    where
      west : Before (edge_key s) e f → x_of s (west_of s e) ≤ x_of s (west_of s f)
      west (inl d) = omega arith
      west (inr d) = omega (arith, d.0)

      apart : x_of s (west_of s f) < x_of s (east_of s e) → ⊥
      apart l = before_irrefl (edge_key s) f (rw one at first)
        where
          one : e ≡ f
          one =
              separator_one (drawing_of s) kept (place_of s) (place_rises s a) (x_of s (west_of s f)) (chain_of s f) e f
              (b, (west first, l)) (c, (le_refl (x_of s (west_of s f)), (inside f c).0.1)) (rw same at (chain_separates e b)) (chain_separates f c)

  -- of two entries of a chain the earlier one ends where the later one starts, or west of it
  pub entries_eastward : (k t u : ℕ) → start_of s k ≤ t → t < u → u < start_of s (k + 1) → x_of s (east_of s (entry_at s t)) ≤ x_of s (west_of s (entry_at s u))
  entries_eastward k t u low next high =
      let e = entry_in_chain k t low (omega arith) in
      let f = entry_in_chain k u (omega arith) high in
      before_eastward (entry_at s t) (entry_at s u) e.0 f.0 (e.1 ∙ sym f.1) first
    where
      first : Before (edge_key s) (entry_at s t) (entry_at s u)
      first =
          rw (entry_in_order t, entry_in_order u)
          (in_order_lem.ascending t u next (omega (arith, rw (add-one k) at high, start_within (suc k))))

  -- ---- the probes of a chain

  -- what covers x starts at x or west of it
  covers_from : (x e : ℕ) → e < edge_count s → Covers s x e → x_of s (west_of s e) ≤ x
  covers_from x e b (inl c) = c.0
  covers_from x e b (inr c) = omega (arith, inside e b, c)

  looks_covering : (x e : ℕ) → e < edge_count s → Covers s x e → look s (table_look_ups s) x e ≡ Covering
  looks_covering x e b c =
      rw (le-ltb x (x_of s (west_of s e)) (covers_from x e b c), look, held (covers (east_margin s) (segment s e) x) c)

  -- an edge that ends where the covering one starts, or west of it, is beyond
  looks_beyond : (x e f : ℕ) → e < edge_count s → f < edge_count s → Covers s x e → x_of s (east_of s f) ≤ x_of s (west_of s e)
      → look s (table_look_ups s) x f ≡ Beyond
  looks_beyond x e f b d c l =
      rw (le-ltb x (x_of s (west_of s f)) started, look, fails (covers (east_margin s) (segment s f) x) passed)
    where
      from : x_of s (west_of s e) ≤ x
      from = covers_from x e b c

      started : x_of s (west_of s f) ≤ x
      started = omega (arith, from, inside f d)

      passed : Covers s x f → ⊥
      passed (inl p) = omega (arith, from, p)
      passed (inr p) = omega (arith, p, inside e b)

  -- an edge that starts where the covering one ends, or east of it, is not reached
  looks_west : (x e f : ℕ) → f < edge_count s → Covers s x e → x_of s (east_of s e) ≤ x_of s (west_of s f) → look s (table_look_ups s) x f ≡ West
  looks_west x e f d c l = rw (lt-ltb x (x_of s (west_of s f)) (short c), look)
    where
      short : Covers s x e → x < x_of s (west_of s f)
      short (inl p) = omega (arith, p)
      short (inr p) = omega (arith, p, inside f d)

  -- the probes of a chain find its edge that covers x
  pub chain_probed : (x k e probes : ℕ) → e < edge_count s → chain_of s e ≡ k → Covers s x e → (q : ℕ) × (probe_chain s (table_look_ups s) x k probes ≡ covered e q)
  chain_probed x k e probes b same c = go (chain_has_entry k e b same)
    where
      go : (t : ℕ) × ((start_of s k ≤ t) × (t < start_of s (k + 1))) × (entry_at s t ≡ e)
          → (q : ℕ) × (probe_chain s (table_look_ups s) x k probes ≡ covered e q)
      go (t, (low, high), i) =
          rw i at
          (probe_finds s (table_look_ups s) x t (start_of s (k + 1)) (start_of s k) (start_of s (k + 1)) probes low high (omega arith)
          (rw i (looks_covering x e b c))
          (λ u from next. looks_beyond x e (entry_at s u) b (entry_in_chain k u from (omega arith)).0 c (rw i at (entries_eastward k u t from next high)))
          (λ u next to. looks_west x e (entry_at s u) (entry_in_chain k u (omega arith) to).0 c (rw i at (entries_eastward k t u low next to))))
