-- Columns and transects in the definitions' own terms. Of a sheet that keeps rules 1 to 5: zones agree up a column, and at the ends of all columns. Of an accepted sheet: places rise, one edge separates, and the first and the last zone are at the ends.
use mathlib.Core.Path.{◌≡◌, ap, ◌∙◌}
use mathlib.Core.Logic.{◌↔◌}
use Prim.Native.Nat.{ℕ, ◌+◌, ◌*◌, ◌-◌, ◌<◌, ◌≤◌}
use native.Mathlib.Nat.{le_refl}
use native.Mathlib.Omega.{arith, by_contra}
use Rattle.subdivision.specs.Sheet.{Sheet, west_margin, east_margin, edge_count, zone_count, x_of, west_of, above_of, below_of, segment}
use Rattle.subdivision.specs.Accepted.{Accepted, Lower, Highest, Lowest, NextUp}
use Rattle.subdivision.specs.Index.{place_of}
use Rattle.subdivision.specs.Reading.{first_zone, last_zone}
use Rattle.theory.proofs.ColumnNames.{column_names_agree, column_filled, top_name_one, bottom_name_one}
use Rattle.theory.proofs.ColumnNeighbours.{has_top, has_bottom}
use Rattle.theory.proofs.Columns.{NextInColumn, TopOf, BottomOf, Kept}
use Rattle.theory.proofs.Drawn.{Drawn, accepted_drawn, drawing_of}
use Rattle.theory.proofs.DrawnRules.{drawn_kept}
use Rattle.theory.proofs.Places.{first_has_place_0, last_has_last_place, bottom_zone, top_zone, separator, place_rises}
use Rattle.theory.proofs.Crossings.{Crosses}
use Rattle.theory.proofs.Scale.{scaled}
use Rattle.theory.proofs.Scaling.{one_scale}
use Rattle.theory.proofs.Separators.{places_rise, separator_one}
use Rattle.theory.proofs.TransectNames.{zone_over_one, zone_under_one, highest_node_top, lowest_node_bottom}
use Rattle.theory.proofs.Transects.{Node, OnTransect, NoneHigher, NoneLower, ZoneOver, ZoneUnder}

module _ (s : Sheet) where
  -- edge e separates, in column x, the zones with places below k from the others
  abbrev pub Separates : ℕ → ℕ → ℕ → Type 0
  Separates x k e = Crosses s x e × ((place_of s (below_of s e) < k) × (k ≤ place_of s (above_of s e)))

module _ (s : Sheet) (a : Drawn s) where
  kept : Kept (drawing_of s)
  kept = drawn_kept s a

  -- of two edges of a column that is lower whose height on the half line, to the common scale, is less
  lower_in_column : (x e f : ℕ) → Crosses s x e → Crosses s x f → Lower (2 * x + 1) (segment s e) (segment s f) ↔ (scaled s (2 * x + 1) e < scaled s (2 * x + 1) f)
  lower_in_column x e f i j = (one_scale s a.two).lower_less (2 * x + 1) e f i.0 j.0

  -- ---- up a column

  next_up_in_column : (x e f : ℕ) → NextUp s (2 * x + 1) (Crosses s x) e f → NextInColumn (drawing_of s) x e f
  next_up_in_column x e f ((i, j), (l, none)) =
      ((i, j), ((lower_in_column x e f i j).0 l, λ g k m n. none g k.0 (k, (lower_in_column x e g i k).1 m) ((lower_in_column x g f k j).1 n)))

  -- the zone above an edge of a column is the zone below the next one up
  pub column_agrees : (x e f : ℕ) → NextUp s (2 * x + 1) (Crosses s x) e f → above_of s e ≡ below_of s f
  column_agrees x e f n = column_names_agree (drawing_of s) kept x e f (next_up_in_column x e f n)

  -- where there is an edge, every column has one
  pub column_has_edge : (e x : ℕ) → e < edge_count s → west_margin s ≤ x → x < east_margin s → (f : ℕ) × Crosses s x f
  column_has_edge e x b = column_filled (drawing_of s) kept (x_of s (west_of s e)) e x (b, (le_refl (x_of s (west_of s e)), a.two.1.0 e b))

  -- ---- the ends of a column

  lowest_is_bottom : (x e : ℕ) → Lowest s (2 * x + 1) (Crosses s x) e → BottomOf (drawing_of s) x e
  lowest_is_bottom x e t = (t.0, λ g i. by_contra (scaled s (2 * x + 1) e) (scaled s (2 * x + 1) g) (λ l. t.1 g i.0 i ((lower_in_column x g e i t.0).1 l)))

  highest_is_top : (x e : ℕ) → Highest s (2 * x + 1) (Crosses s x) e → TopOf (drawing_of s) x e
  highest_is_top x e t = (t.0, λ g i. by_contra (scaled s (2 * x + 1) g) (scaled s (2 * x + 1) e) (λ l. t.1 g i.0 i ((lower_in_column x e g t.0 i).1 l)))

  -- where there is an edge, every column has a lowest one
  pub column_has_lowest : (e x : ℕ) → e < edge_count s → west_margin s ≤ x → x < east_margin s → (f : ℕ) × Lowest s (2 * x + 1) (Crosses s x) f
  column_has_lowest e x b w v =
      let g = column_has_edge e x b w v in
      let f = has_bottom (drawing_of s) x g.0 g.1 in
      (f.0, (f.1.0, λ h c i l. omega (arith, f.1.1 h i, (lower_in_column x h f.0 i f.1.0).0 l)))

  -- and a highest one
  pub column_has_highest : (e x : ℕ) → e < edge_count s → west_margin s ≤ x → x < east_margin s → (f : ℕ) × Highest s (2 * x + 1) (Crosses s x) f
  column_has_highest e x b w v =
      let g = column_has_edge e x b w v in
      let f = has_top (drawing_of s) x g.0 g.1 in
      (f.0, (f.1.0, λ h c i l. omega (arith, f.1.1 h i, (lower_in_column x f.0 h f.1.0 i).0 l)))

  -- the zone below the lowest edge is the same in all columns
  pub bottom_zone_one : (x e c f : ℕ) → Lowest s (2 * x + 1) (Crosses s x) e → Lowest s (2 * c + 1) (Crosses s c) f → below_of s e ≡ below_of s f
  bottom_zone_one x e c f t u = bottom_name_one (drawing_of s) kept x e c f (lowest_is_bottom x e t) (lowest_is_bottom c f u)

  -- and the zone above the highest
  pub top_zone_one : (x e c f : ℕ) → Highest s (2 * x + 1) (Crosses s x) e → Highest s (2 * c + 1) (Crosses s c) f → above_of s e ≡ above_of s f
  top_zone_one x e c f t u = top_name_one (drawing_of s) kept x e c f (highest_is_top x e t) (highest_is_top c f u)

module _ (s : Sheet) (a : Accepted s) where
  drawn : Drawn s
  drawn = accepted_drawn s a

  -- up a column places rise, from above an edge to below a higher one weakly
  pub places_rise_up : (x e f : ℕ) → Crosses s x e → Crosses s x f → Lower (2 * x + 1) (segment s e) (segment s f) → place_of s (above_of s e) ≤ place_of s (below_of s f)
  places_rise_up x e f i j l = places_rise (drawing_of s) (kept s drawn) (place_of s) (place_rises s a) x e f i j ((lower_in_column s drawn x e f i j).0 l)

  -- in every column one edge, and no other, separates the zones with places below k from the others
  pub one_separator : (x k : ℕ) → west_margin s ≤ x → x < east_margin s → 1 ≤ k → k < zone_count s
      → (e : ℕ) × Separates s x k e × ((f : ℕ) → Separates s x k f → f ≡ e)
  one_separator x k w v low high =
      let e = separator s a x k w v low high in
      (e.0, (e.1, e.2), λ f t. separator_one (drawing_of s) (kept s drawn) (place_of s) (place_rises s a) x k f e.0 t.0 e.1 t.1 e.2)

  -- the zone below the lowest edge of a column is the first zone, at place 0
  pub bottom_edge_zone : (x e : ℕ) → Lowest s (2 * x + 1) (Crosses s x) e → (below_of s e ≡ first_zone s) × (place_of s (below_of s e) ≡ 0)
  bottom_edge_zone x e t =
      let i = bottom_zone s a x e (lowest_is_bottom s drawn x e t) in
      (i, ap (place_of s) i ∙ first_has_place_0 s a)

  -- the zone above the highest edge of a column is the last zone, at the last place
  pub top_edge_zone : (x e : ℕ) → Highest s (2 * x + 1) (Crosses s x) e → (above_of s e ≡ last_zone s) × (place_of s (above_of s e) ≡ zone_count s - 1)
  top_edge_zone x e t =
      let i = top_zone s a x e (highest_is_top s drawn x e t) in
      (i, ap (place_of s) i ∙ last_has_last_place s a)

  -- ---- the ends of a transect

  -- the zone under the lowest node of a transect is the first zone
  pub bottom_node_zone : (x w : ℕ) (p : Node) → OnTransect s x p → NoneLower s x p → ZoneUnder s p w → w ≡ first_zone s
  bottom_node_zone x w p o none u =
      let t = lowest_node_bottom s drawn x p o none in
      zone_under_one s drawn x p w (below_of s t.1) o u t.3 ∙ bottom_zone s a t.0 t.1 t.2

  -- the zone over the highest node of a transect is the last zone
  pub top_node_zone : (x w : ℕ) (p : Node) → OnTransect s x p → NoneHigher s x p → ZoneOver s p w → w ≡ last_zone s
  top_node_zone x w p o none u =
      let t = highest_node_top s drawn x p o none in
      zone_over_one s drawn x p w (above_of s t.1) o u t.3 ∙ top_zone s a t.0 t.1 t.2
