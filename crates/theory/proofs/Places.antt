-- Places in the columns of an accepted sheet: they rise from the first zone, below the bottom edge, to the last, above the top edge, and one edge separates those below a number from the others.
use mathlib.Core.Path.{◌≡◌, sym, ap, ◌∙◌}
use mathlib.Core.Logic.{◌⊎◌, inl, inr, ⊎_elim}
use Prim.Native.Nat.{ℕ, ◌-◌, ◌<◌, ◌≤◌}
use native.Mathlib.Nat.{le_refl}
use native.Mathlib.Omega.{arith}
use lib.ListN.{length}
use Rattle.subdivision.specs.Sheet.{Sheet, west_margin, east_margin, edge_count, zone_count, x_of, west_of, above_of, below_of}
use Rattle.subdivision.specs.ZoneLine.{zone_line}
use Rattle.subdivision.specs.Accepted.{Accepted}
use Rattle.subdivision.specs.Index.{place_of, zone_at}
use Rattle.subdivision.specs.Reading.{first_zone, last_zone}
use Rattle.theory.proofs.Chains.{accepted_line, accepted_above}
use Rattle.theory.proofs.ColumnNames.{column_filled}
use Rattle.theory.proofs.Columns.{InColumn, TopOf, BottomOf, Kept}
use Rattle.theory.proofs.Drawn.{accepted_drawn, drawing_of}
use Rattle.theory.proofs.DrawnRules.{drawn_kept}
use Rattle.theory.proofs.Position.{entry_at_place}
use Rattle.theory.proofs.Separators.{below_only_is_bottom, above_only_is_top, separator_in}
use Rattle.theory.proofs.ZoneLine.{line_entry_below, place_of_entry, full_places, line_kept}

module _ (s : Sheet) (a : Accepted s) where
  -- ---- the line of zones

  pub place_rises : (e : ℕ) → e < edge_count s → place_of s (below_of s e) < place_of s (above_of s e)
  unfolding place_of
  place_rises = (line_kept s (accepted_line s a) (accepted_above s a)).rising

  first_in_line : 0 < length (zone_line s)
  first_in_line = omega (arith, accepted_line s a, a.counts.1.1.0)

  last_in_line : zone_count s - 1 < length (zone_line s)
  last_in_line = omega (arith, accepted_line s a, a.counts.1.1.0)

  pub first_is_zone : first_zone s < zone_count s
  unfolding first_zone
  first_is_zone = line_entry_below s 0 first_in_line

  last_is_zone : last_zone s < zone_count s
  unfolding last_zone
  last_is_zone = line_entry_below s (zone_count s - 1) last_in_line

  pub first_has_place_0 : place_of s (first_zone s) ≡ 0
  unfolding place_of first_zone
  first_has_place_0 = place_of_entry s 0 first_in_line

  pub last_has_last_place : place_of s (last_zone s) ≡ zone_count s - 1
  unfolding place_of last_zone
  last_has_last_place = place_of_entry s (zone_count s - 1) last_in_line

  pub place_within : (z : ℕ) → z < zone_count s → place_of s z < zone_count s
  unfolding place_of
  place_within z h = omega (arith, accepted_line s a, full_places s (accepted_line s a) z h)

  pub zone_at_below : (p : ℕ) → p < zone_count s → zone_at s p < zone_count s
  unfolding zone_at
  zone_at_below p h = line_entry_below s p (omega (arith, accepted_line s a))

  -- at a zone's place is the zone
  pub zone_at_place : (z : ℕ) → z < zone_count s → zone_at s (place_of s z) ≡ z
  unfolding place_of zone_at
  zone_at_place z h = entry_at_place z (zone_line s) (full_places s (accepted_line s a) z h)

  -- zones of one place are one
  place_one : (y z : ℕ) → y < zone_count s → z < zone_count s → place_of s y ≡ place_of s z → y ≡ z
  place_one y z g h e = sym (zone_at_place y g) ∙ (ap (zone_at s) e ∙ zone_at_place z h)

  -- ---- rule 6

  -- some edge names zone z
  abbrev Named : ℕ → Type 0
  Named z = (e : ℕ) × (e < edge_count s) × ((above_of s e ≡ z) ⊎ (below_of s e ≡ z))

  -- where there are edges, some edge names each zone
  zone_named_lem : 0 < edge_count s → (z : ℕ) → z < zone_count s → Named z
  zone_named_lem some z h = ⊎_elim (λ e. e) (λ o. absurd (omega (arith, o.1.1))) (a.six z h)

  -- where there are two zones, there are edges
  zones_parted : 1 < zone_count s → 0 < edge_count s
  zones_parted two = ⊎_elim (λ e. omega (arith, e.1)) (λ o. omega (arith, o.0)) (a.six (first_zone s) first_is_zone)

  -- on a sheet without edges the first zone is the last
  pub undrawn_first_is_last : edge_count s ≡ 0 → first_zone s ≡ last_zone s
  undrawn_first_is_last none =
      place_one (first_zone s) (last_zone s) first_is_zone last_is_zone (omega (arith, first_has_place_0, last_has_last_place, not_two))
    where
      not_two : ¬ (1 < zone_count s)
      not_two l = omega (arith, zones_parted l)

  first_not_above : (e : ℕ) → e < edge_count s → above_of s e ≡ first_zone s → ⊥
  first_not_above e b i = omega (arith, place_rises e b, ap (place_of s) i, first_has_place_0)

  last_not_below : (e : ℕ) → e < edge_count s → below_of s e ≡ last_zone s → ⊥
  last_not_below e b i =
      omega (arith, place_rises e b, ap (place_of s) i, last_has_last_place, place_within (above_of s e) (accepted_above s a e b))

  -- ---- columns

  kept : Kept (drawing_of s)
  kept = drawn_kept s (accepted_drawn s a)

  -- the first zone is below the bottom edge of every column
  pub bottom_zone : (x e : ℕ) → BottomOf (drawing_of s) x e → below_of s e ≡ first_zone s
  bottom_zone x e bottom = go (zone_named_lem (omega (arith, bottom.0.0)) (first_zone s) first_is_zone)
    where
      go : Named (first_zone s) → below_of s e ≡ first_zone s
      go (f, b, inl i) = absurd (first_not_above f b i)
      go (f, b, inr i) = below_only_is_bottom (drawing_of s) kept (first_zone s) first_not_above f b i x e bottom

  -- the last zone is above the top edge of every column
  pub top_zone : (x e : ℕ) → TopOf (drawing_of s) x e → above_of s e ≡ last_zone s
  top_zone x e top = go (zone_named_lem (omega (arith, top.0.0)) (last_zone s) last_is_zone)
    where
      go : Named (last_zone s) → above_of s e ≡ last_zone s
      go (f, b, inl i) = above_only_is_top (drawing_of s) kept (last_zone s) last_not_below f b i x e top
      go (f, b, inr i) = absurd (last_not_below f b i)

  -- every column has an edge that separates the places below k from the others
  pub separator : (x k : ℕ) → west_margin s ≤ x → x < east_margin s → 1 ≤ k → k < zone_count s
      → (e : ℕ) × InColumn (drawing_of s) x e × ((place_of s (below_of s e) < k) × (k ≤ place_of s (above_of s e)))
  separator x k west east low high = go (column_filled (drawing_of s) kept (x_of s (west_of s 0)) 0 x crosses west east)
    where
      some : 0 < edge_count s
      some = zones_parted (omega arith)

      crosses : InColumn (drawing_of s) (x_of s (west_of s 0)) 0
      crosses = (some, (le_refl (x_of s (west_of s 0)), (kept.inside 0 some).0.1))

      under : (e : ℕ) → BottomOf (drawing_of s) x e → place_of s (below_of s e) < k
      under e bottom = omega (arith, ap (place_of s) (bottom_zone x e bottom), first_has_place_0)

      over : (e : ℕ) → TopOf (drawing_of s) x e → k ≤ place_of s (above_of s e)
      over e top = omega (arith, ap (place_of s) (top_zone x e top), last_has_last_place)

      go : (e : ℕ) × InColumn (drawing_of s) x e → (e : ℕ) × InColumn (drawing_of s) x e × ((place_of s (below_of s e) < k) × (k ≤ place_of s (above_of s e)))
      go (e, i) = separator_in (drawing_of s) kept (place_of s) x k under over e i
