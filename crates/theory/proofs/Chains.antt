-- The chains of the index: sorted by chain, then by western x, then by number, the edges stand chain after chain, each from west to east.
use mathlib.Core.Path.{◌≡◌, refl, sym, ap, ◌∙◌, subst}
use mathlib.Core.Bool.{Bool, true, false, true≢false}
use mathlib.Core.List.{List, [], ◌∷◌, ◌++◌}
use mathlib.Core.Logic.{inl, inr}
use Prim.Native.Nat.{ℕ, zero, suc, ◌+◌, ◌*◌, ◌-◌, ◌<◌, ◌≤◌, zero-le}
use native.Mathlib.Nat.{le_refl, lt_irrefl, not-suc-le-zero}
use native.Mathlib.Omega.{arith}
use lib.Dec.{eqb}
use lib.ListN.{length, get_or, take, length-append}
use lib.Seq.{length-take-le, take-length, take-add}
use borrow.Author.Tests.{eqb-true, eq-eqb}
use Rattle.subdivision.specs.Lists.{keep}
use Rattle.subdivision.specs.Order.{Before, SortedBelow, in_order}
use Rattle.subdivision.specs.Layout.{index_need}
use Rattle.subdivision.specs.Sheet.{Sheet, edge_count, zone_count, x_of, west_of, above_of, below_of}
use Rattle.subdivision.specs.ZoneLine.{position, zone_line}
use Rattle.subdivision.specs.Accepted.{Accepted}
use Rattle.subdivision.specs.Index.{place_of, chain_of, eastward, chain, chains_below, start_of, index_words}
use Rattle.theory.proofs.Dyadic.{lca_le}
use Rattle.theory.proofs.Groups.{pair_key, group_start, group, group_start_le, group_start_rises, is_group_start, length_group, get_d_group, group_entry, group_holds}
use Rattle.theory.proofs.Lists.{length_tab}
use Rattle.theory.proofs.Order.{In, in_at, at_in, Ascending, at_ascending, same_entries, sorted_below}
use Rattle.theory.proofs.ZoneLine.{line_kept, line_decides}

-- ---- the entries of a list that pass a test

module _ (test : ℕ → Bool) where
  -- what is kept was there, and passes
  pub of_keep : (z : ℕ) (l : List ℕ) → In z (keep test l) → In z l × (test z ≡ true)
  of_keep z [] m = absurd m
  of_keep z (x ∷ xs) m = go (test x) refl m (of_keep z xs)
    where
      go : (b : Bool) → test x ≡ b → In z (elim b [ true ↦ x ∷ keep test xs | false ↦ keep test xs ])
          → (In z (keep test xs) → In z xs × (test z ≡ true)) → In z (x ∷ xs) × (test z ≡ true)
      go true e (inl p) r = (inl p, ap test p ∙ e)
      go true e (inr n) r = (inr (r n).0, (r n).1)
      go false e n r = (inr (r n).0, (r n).1)

  -- what was there and passes is kept
  pub to_keep : (z : ℕ) (l : List ℕ) → In z l → test z ≡ true → In z (keep test l)
  to_keep z [] m e = m
  to_keep z (x ∷ xs) m e = go (test x) refl m (λ n. to_keep z xs n e)
    where
      go : (b : Bool) → test x ≡ b → In z (x ∷ xs) → (In z xs → In z (keep test xs))
          → In z (elim b [ true ↦ x ∷ keep test xs | false ↦ keep test xs ])
      go true d (inl p) r = inl p
      go true d (inr n) r = inr (r n)
      go false d (inl p) r = absurd (true≢false (sym e ∙ (ap test p ∙ d)))
      go false d (inr n) r = r n

  -- what is kept of a sorted list is sorted, also by another key that orders what passes alike
  pub keep_ascending : (key other : ℕ → ℕ) → ((x y : ℕ) → test x ≡ true → test y ≡ true → Before key x y → Before other x y)
      → (l : List ℕ) → Ascending key l → Ascending other (keep test l)
  keep_ascending key other alike [] up = tt
  keep_ascending key other alike (x ∷ xs) up = go (test x) refl (keep_ascending key other alike xs up.1)
    where
      go : (b : Bool) → test x ≡ b → Ascending other (keep test xs)
          → Ascending other (elim b [ true ↦ x ∷ keep test xs | false ↦ keep test xs ])
      go true e r = (λ y m. let k = of_keep y xs m in alike x y e k.1 (up.0 y k.0), r)
      go false e r = r

-- ---- sorted by one number, then by another

-- two numbers as one key, the second below 2^32: the groups are by the first number, each sorted by the second
module _ (upper lower : ℕ → ℕ) (m : ℕ) (small : (e : ℕ) → e < m → lower e < 4294967296) where
  -- the key of the two numbers
  abbrev key : ℕ → ℕ
  key e = pair_key (upper e) (lower e)

  -- the numbers below m, sorted by it
  abbrev whole : List ℕ
  whole = in_order key m

  by_key : SortedBelow key m whole
  by_key = sorted_below key m

  by_lower : SortedBelow lower m (in_order lower m)
  by_lower = sorted_below lower m

  group_ascending : (k : ℕ) → Ascending key (group key whole k)
  group_ascending k = at_ascending key (group key whole k) up
    where
      up : (i j : ℕ) → i < j → j < length (group key whole k) → Before key (get_or (group key whole k) i 0) (get_or (group key whole k) j 0)
      up i j h b =
          rw (get_d_group key whole k i (omega arith), get_d_group key whole k j b)
          (by_key.ascending (group_start key whole k + i) (group_start key whole k + j) (omega arith) (omega (arith, length_group key whole k, group_start_le key whole (suc k), by_key.long)))

  kept_ascending : (k : ℕ) → Ascending key (keep (λ e. eqb (upper e) k) (in_order lower m))
  kept_ascending k =
      keep_ascending (λ e. eqb (upper e) k) lower key alike (in_order lower m)
      (at_ascending lower (in_order lower m) (λ i j h b. by_lower.ascending i j h (rw by_lower.long at b)))
    where
      alike : (x y : ℕ) → eqb (upper x) k ≡ true → eqb (upper y) k ≡ true → Before lower x y → Before key x y
      alike x y p q (inl d) = inl (omega (arith, eqb-true (upper x) k p, eqb-true (upper y) k q))
      alike x y p q (inr d) = inr (omega (arith, eqb-true (upper x) k p, eqb-true (upper y) k q, d.0), d.1)

  -- a group is the numbers with its first number, sorted by the second
  pub group_kept : (k : ℕ) → group key whole k ≡ keep (λ e. eqb (upper e) k) (in_order lower m)
  group_kept k = same_entries key (group key whole k) (keep test (in_order lower m)) (group_ascending k) (kept_ascending k) there back
    where
      test : ℕ → Bool
      test e = eqb (upper e) k

      in_lower : (z : ℕ) → (i : ℕ) × (i < m) × (get_or (in_order lower m) i 0 ≡ z) → In z (in_order lower m)
      in_lower z h = subst (λ (y : ℕ). In y (in_order lower m)) h.2 (in_at (in_order lower m) h.0 (rw by_lower.long h.1))

      at_group : (z : ℕ) → (z < m) × ((k * 4294967296 ≤ key z) × (key z < suc k * 4294967296)) → In z (keep test (in_order lower m))
      at_group z h =
          let same : upper z ≡ k = omega (arith, small z h.0, h.1.0, h.1.1) in
          to_keep test z (in_order lower m) (in_lower z (by_lower.holding z h.0)) (eq-eqb (upper z) k same)

      there : (z : ℕ) → In z (group key whole k) → In z (keep test (in_order lower m))
      there z n = go (at_in (group key whole k) z n)
        where
          go : (i : ℕ) × (i < length (group key whole k)) × (get_or (group key whole k) i 0 ≡ z) → In z (keep test (in_order lower m))
          go h = at_group z (rw h.2 at (group_entry key whole m by_key k h.0 h.1))

      back : (z : ℕ) → In z (keep test (in_order lower m)) → In z (group key whole k)
      back z n = go (of_keep test z (in_order lower m) n)
        where
          found : (i : ℕ) × (i < length (group key whole k)) × (get_or (group key whole k) i 0 ≡ z) → In z (group key whole k)
          found h = subst (λ (y : ℕ). In y (group key whole k)) h.2 (in_at (group key whole k) h.0 h.1)

          below : (i : ℕ) × (i < length (in_order lower m)) × (get_or (in_order lower m) i 0 ≡ z) → z < m
          below h = rw h.2 at (by_lower.numbers h.0 (rw by_lower.long at h.1))

          go : In z (in_order lower m) × (test z ≡ true) → In z (group key whole k)
          go h =
              let b : z < m = below (at_in (in_order lower m) z h.0) in
              let same : upper z ≡ k = eqb-true (upper z) k h.1 in
              found (group_holds key whole m by_key k z b (omega (arith, small z b)) (omega (arith, small z b)))

  -- the first number of every entry is below a count
  module _ (n : ℕ) (under : (e : ℕ) → e < m → upper e < n) where
    last_start : group_start key whole n ≡ length whole
    last_start =
        is_group_start key whole n (length whole) (le_refl (length whole))
        (λ i h. let b : get_or whole i 0 < m = by_key.numbers i (rw by_key.long at h) in omega (arith, small (get_or whole i 0) b, under (get_or whole i 0) b))
        (λ h. absurd (lt_irrefl (length whole) h))

    -- the groups below the count are the whole order
    pub last_group : take (group_start key whole n) whole ≡ whole
    last_group = rw last_start (take-length whole)

  -- before a group stand the groups before it
  pub group_next : (k : ℕ) → take (group_start key whole (suc k)) whole ≡ take (group_start key whole k) whole ++ group key whole k
  group_next k =
      let rise : group_start key whole k + (group_start key whole (suc k) - group_start key whole k) ≡ group_start key whole (suc k) =
      omega (arith, group_start_rises key whole k) in
      rw rise at (take-add (group_start key whole k) (group_start key whole (suc k) - group_start key whole k) whole)

  -- before the first group stands nothing
  pub first_group : group_start key whole 0 ≡ 0
  first_group = is_group_start key whole 0 0 zero-le (λ i h. absurd (not-suc-le-zero h)) (λ h. zero-le)

-- ---- the chains

-- the key that sorts the edges: their chain, then their western x
abbrev pub edge_key : Sheet → ℕ → ℕ
edge_key s e = pair_key (chain_of s e) (x_of s (west_of s e))

module _ (s : Sheet) where
  -- the edges, sorted so
  abbrev sorted_edges : List ℕ
  sorted_edges = in_order (edge_key s) (edge_count s)

  -- every chain is below the number of zones, where the line used places every zone
  pub chain_below : length (zone_line s) ≡ zone_count s → ((e : ℕ) → e < edge_count s → above_of s e < zone_count s)
      → (e : ℕ) → e < edge_count s → chain_of s e < zone_count s
  unfolding chain_of place_of
  chain_below full named e h =
      omega (arith, lca_le (position (below_of s e) (zone_line s)) (position (above_of s e) (zone_line s)), (line_kept s full named).holding (above_of s e) (named e h))

  module _ (small : (e : ℕ) → e < edge_count s → x_of s (west_of s e) < 4294967296) where
    -- the chains below k are the front of the sorted edges
    pub chains_before : (k : ℕ) → chains_below s k ≡ take (group_start (edge_key s) sorted_edges k) sorted_edges
    unfolding chain eastward
    chains_before zero = rw (first_group (chain_of s) (λ e. x_of s (west_of s e)) (edge_count s) small) refl
    chains_before (suc k) =
        rw (chains_before k, group_next (chain_of s) (λ e. x_of s (west_of s e)) (edge_count s) small k, group_kept (chain_of s) (λ e. x_of s (west_of s e)) (edge_count s) small k) refl

    -- a chain begins where its group does
    pub start_is_group : (k : ℕ) → start_of s k ≡ group_start (edge_key s) sorted_edges k
    unfolding start_of
    start_is_group k =
        rw (chains_before k) (length-take-le (group_start (edge_key s) sorted_edges k) sorted_edges (group_start_le (edge_key s) sorted_edges k))

    module _ (full : length (zone_line s) ≡ zone_count s) (named : (e : ℕ) → e < edge_count s → above_of s e < zone_count s) where
      -- one sort makes all chains
      pub chains_are_sorted : chains_below s (zone_count s) ≡ sorted_edges
      chains_are_sorted =
          chains_before (zone_count s) ∙ last_group (chain_of s) (λ e. x_of s (west_of s e)) (edge_count s) small (zone_count s) (chain_below full named)

      -- the index has as many words as document 01 says
      pub index_length : length (index_words s) ≡ index_need (zone_count s) (edge_count s)
      unfolding index_words
      index_length =
          rw (chains_are_sorted, length-append, length-append, length-append, length_tab, length_tab, length_tab, (sorted_below (edge_key s) (edge_count s)).long) (omega arith)

-- ---- an accepted sheet

module _ (s : Sheet) (a : Accepted s) where
  -- the line used places every zone
  pub accepted_line : length (zone_line s) ≡ zone_count s
  accepted_line = (line_decides s (λ e h. (a.two.0 e h).1)).1 a.seven

  -- every edge names a zone above it
  pub accepted_above : (e : ℕ) → e < edge_count s → above_of s e < zone_count s
  accepted_above e h = (a.two.0 e h).1.0

  -- every western x is small
  pub accepted_west : (e : ℕ) → e < edge_count s → x_of s (west_of s e) < 4294967296
  accepted_west e h = omega (arith, (a.one.0 (west_of s e) (a.two.0 e h).0.0).0.0.1)
