-- The four readings of a point on an accepted sheet: each has one answer, which is the one computed, and where the point lies on no edge the four agree.
use mathlib.Core.Path.{◌≡◌, refl, sym, ◌∙◌}
use mathlib.Core.Logic.{◌↔◌}
use Prim.Native.Nat.{ℕ, suc, ◌+◌, ◌*◌, ◌-◌, ◌<◌, ◌≤◌}
use native.Mathlib.Nat.{le_of_lt}
use native.Mathlib.Omega.{arith, by_contra}
use borrow.Author.Tests.{lt-ltb}
use Rattle.subdivision.specs.Formula.{Formula, both}
use Rattle.subdivision.specs.Sheet.{Sheet, east_margin, edge_count, above_of, below_of, segment}
use Rattle.subdivision.specs.Lines.{covers, covers_west, is_above, is_below}
use Rattle.subdivision.specs.Neighbours.{is_lower, is_highest, is_lowest}
use Rattle.subdivision.specs.Accepted.{Accepted, Lower, Highest}
use Rattle.subdivision.specs.Reading.{reading_line, read_from, first_zone, last_zone, zone_beneath, zone_overhead, zone_beneath_west, zone_overhead_west}
use Rattle.subdivision.specs.Placed.{OnSheet, Inland, OffEdges, IsOn, Covers, Under, ReadBeneath, ReadOverhead, ReadBeneathWest, ReadOverheadWest, ReadSo, ZonesAgree}
use Rattle.theory.proofs.ColumnNeighbours.{highest_under_lem, lowest_over}
use Rattle.theory.proofs.Columns.{InColumn, Rises, HighestUnder, LowestOver, Kept}
use Rattle.theory.proofs.Scale.{scaled, level, OneScale}
use Rattle.theory.proofs.Scaling.{one_scale}
use Rattle.theory.proofs.Drawn.{accepted_drawn, drawing_of}
use Rattle.theory.proofs.DrawnRules.{drawn_kept, column_rises}
use Rattle.theory.proofs.Places.{bottom_zone, top_zone, undrawn_first_is_last}
use Rattle.theory.proofs.ColumnReadings.{ReadUnder, under_is_over, west_is_east}
use Rattle.theory.proofs.SideViews.{SideView, by_view, view_plain, view_west}
use Rattle.theory.proofs.Sights.{Sight, sight_of, sight_one, sight_computed, sight_read}

-- what is so just where p < q is not so just where q <= p
not_less : (A : Type 0) (p q : ℕ) → A ↔ (p < q) → (A → ⊥) ↔ (q ≤ p)
not_less A p q t = (λ n. by_contra q p (λ l. n (t.1 l)), λ m o. omega (arith, t.0 o))

module _ (s : Sheet) (a : Accepted s) where
  scale : OneScale s
  scale = one_scale s a.two

  kept : Kept (drawing_of s)
  kept = drawn_kept s (accepted_drawn s a)

  module _ {x line : ℕ} {cover : ℕ → Formula} (v : SideView s x cover line) where
    -- the height of an edge on the half line of the view
    abbrev half : ℕ → ℕ
    half e = scaled s (2 * v.column + 1) e

    -- one edge is not lower than another on the line of the view just where the other is at most as high on the half line
    not_lower : (e f : ℕ) → e < edge_count s → f < edge_count s → (Lower line (segment s e) (segment s f) → ⊥) ↔ (half f ≤ half e)
    not_lower e f b c = rw (← v.half_line) (not_less _ _ _ (scale.lower_less line e f b c))

    -- at the abscissa of the view the edges stand, weakly, as on its half line
    pub view_order : Rises (drawing_of s) v.column (scaled s (2 * x))
    view_order = by_view s (λ c b. Rises (drawing_of s) c (scaled s (2 * b))) (λ eastern c w k. column_rises s (accepted_drawn s a) eastern c) v

    module _ (y : ℕ) where
      -- edge e has the cover and is under the point
      abbrev under : ℕ → Formula
      under e = both (cover e) (is_above (segment s e) x y)

      -- edge e has the cover and is over the point
      abbrev over : ℕ → Formula
      over e = both (cover e) (is_below (segment s e) x y)

      -- the reading from beneath
      pub from_beneath_lem : Sight s v.column under (is_highest s line under) (λ e. scaled s (2 * x) e < level s y) (HighestUnder (drawing_of s) v.column (scaled s (2 * x)) (level s y))
      from_beneath_lem =
          sight_of v (λ e. is_above (segment s e) x y) (is_lower s line) (λ e. scaled s (2 * x) e < level s y) (λ g e. half g ≤ half e)
          (λ e. scale.under_level e x y) not_lower
          (highest_under_lem (drawing_of s) v.column (scaled s (2 * x)) (level s y)) (λ e f i j l m. kept.apart v.column e f i j (omega arith))

      -- the reading from overhead
      from_overhead_lem : Sight s v.column over (is_lowest s line over) (λ e. level s y < scaled s (2 * x) e) (LowestOver (drawing_of s) v.column (scaled s (2 * x)) (level s y))
      from_overhead_lem =
          sight_of v (λ e. is_below (segment s e) x y) (λ e f. is_lower s line f e) (λ e. level s y < scaled s (2 * x) e) (λ g e. half e ≤ half g)
          (λ e. scale.over_level e x y) (λ e f b c. not_lower f e c b)
          (lowest_over (drawing_of s) v.column (scaled s (2 * x)) (level s y)) (λ e f i j l m. kept.apart v.column e f i j (omega arith))

      -- the zone read from beneath
      abbrev zone_under : ℕ
      zone_under = read_from s (is_highest s line under) (above_of s) (first_zone s)

      -- the zone read from overhead
      abbrev zone_over : ℕ
      zone_over = read_from s (is_lowest s line over) (below_of s) (last_zone s)

      -- the point is on an edge of the column that has its level
      pub view_on : (g : ℕ) → InColumn (drawing_of s) v.column g → scaled s (2 * x) g ≡ level s y → IsOn s x y g
      view_on g i q =
          ((omega (arith, v.beside.0, i.1.0), omega (arith, v.beside.1, i.1.1)), (scale.on_level g x y i.0).1 q)

      -- off the edges, the zone read from beneath is the one read from overhead
      view_agrees : OffEdges s x y → zone_under ≡ zone_over
      view_agrees off =
          under_is_over (drawing_of s) kept (first_zone s) (last_zone s) (bottom_zone s a) (top_zone s a) (undrawn_first_is_last s a)
          v.column (scaled s (2 * x)) (level s y) zone_under zone_over view_order v.inside.0 v.inside.1 (λ g i q. off g i.0 (view_on g i q))
          (sight_read from_beneath_lem (above_of s) (first_zone s)) (sight_read from_overhead_lem (below_of s) (last_zone s))

  -- two views of an abscissa, from its two sides, read the same from beneath
  views_agree : {x line other : ℕ} {cover covered : ℕ → Formula} (v : SideView s x cover line) (u : SideView s x covered other) (y : ℕ)
      → suc u.column ≡ v.column → zone_under u y ≡ zone_under v y
  views_agree {x} v u y i =
      over_abscissa v.column x (sym i) (omega (arith, v.beside.0, u.beside.1)) v.inside.1
      (sight_read (from_beneath_lem u y) (above_of s) (first_zone s)) (sight_read (from_beneath_lem v y) (above_of s) (first_zone s))
    where
      over_abscissa : (b x : ℕ) {z w : ℕ} → b ≡ suc u.column → x ≡ suc u.column → b < east_margin s
          → ReadUnder (drawing_of s) u.column (scaled s (2 * x)) (level s y) (first_zone s) z
          → ReadUnder (drawing_of s) b (scaled s (2 * x)) (level s y) (first_zone s) w → z ≡ w
      over_abscissa b x {z} {w} p q =
          rw (p, q) (west_is_east (drawing_of s) kept u.column (level s y) (first_zone s) z w u.inside.0)

  module _ (x y : ℕ) (o : OnSheet s x y) where
    -- the view of the plain reading
    pub plain_view : SideView s x (λ e. covers (east_margin s) (segment s e) x) (reading_line s x)
    plain_view = view_plain s a x o.0.0 o.0.1

    -- the zone read from beneath is the computed one
    pub zone_beneath_read : (w : ℕ) → ReadBeneath s x y w ↔ (w ≡ zone_beneath s x y)
    unfolding zone_beneath
    zone_beneath_read = sight_computed (from_beneath_lem plain_view y) (above_of s) (first_zone s)

    -- the zone read from overhead is the computed one
    zone_overhead_read : (w : ℕ) → ReadOverhead s x y w ↔ (w ≡ zone_overhead s x y)
    unfolding zone_overhead
    zone_overhead_read = sight_computed (from_overhead_lem plain_view y) (below_of s) (last_zone s)

    -- two edges that are both highest of those beneath the point are one
    pub highest_one : (e f : ℕ) → e < edge_count s → f < edge_count s
        → Highest s (reading_line s x) (λ e. Covers s x e × Under s x y e) e
        → Highest s (reading_line s x) (λ e. Covers s x e × Under s x y e) f → e ≡ f
    highest_one = sight_one (from_beneath_lem plain_view y)

    zones_agree_plain : OffEdges s x y → zone_beneath s x y ≡ zone_overhead s x y
    unfolding zone_beneath zone_overhead
    zones_agree_plain = view_agrees plain_view y

  module _ (x y : ℕ) (i : Inland s x) where
    -- the view of the western reading
    western_view : SideView s x (λ e. covers_west (segment s e) x) (2 * x - 1)
    western_view = view_west s x i.0 (le_of_lt i.1)

    -- the zone read from beneath in the west is the computed one
    zone_beneath_west_read : (w : ℕ) → ReadBeneathWest s x y w ↔ (w ≡ zone_beneath_west s x y)
    unfolding zone_beneath_west
    zone_beneath_west_read = sight_computed (from_beneath_lem western_view y) (above_of s) (first_zone s)

    -- the zone read from overhead in the west is the computed one
    zone_overhead_west_read : (w : ℕ) → ReadOverheadWest s x y w ↔ (w ≡ zone_overhead_west s x y)
    unfolding zone_overhead_west
    zone_overhead_west_read = sight_computed (from_overhead_lem western_view y) (below_of s) (last_zone s)

    zones_agree_west : OffEdges s x y → zone_beneath_west s x y ≡ zone_overhead_west s x y
    unfolding zone_beneath_west zone_overhead_west
    zones_agree_west = view_agrees western_view y

    -- the two readings from beneath agree
    beneath_agrees : (o : OnSheet s x y) → zone_beneath_west s x y ≡ zone_beneath s x y
    unfolding zone_beneath_west zone_beneath
    beneath_agrees o = views_agree (plain_view x y o) western_view y columns
      where
        columns : suc western_view.column ≡ (plain_view x y o).column
        columns =
            let east : reading_line s x ≡ 2 * x + 1 = rw (lt-ltb x (east_margin s) i.1, reading_line) refl in
            omega (arith, western_view.half_line, (plain_view x y o).half_line)

  -- off the edges, the four readings agree
  pub zones_agree : (x y : ℕ) → OnSheet s x y → OffEdges s x y → ZonesAgree s x y (zone_beneath s x y)
  zones_agree x y o off =
      record {
        from_beneath = refl;
        from_overhead = sym (zones_agree_plain x y o off);
        from_beneath_west = λ i. beneath_agrees x y i o;
        from_overhead_west = λ i. sym (zones_agree_west x y i off) ∙ beneath_agrees x y i o;
      }

  -- off the edges, each of the four readings is of one zone and no other
  pub read_so : (x y : ℕ) → OnSheet s x y → OffEdges s x y → ReadSo s x y (zone_beneath s x y)
  read_so x y o off =
      record {
        beneath = zone_beneath_read x y o;
        overhead = rw agree.from_overhead at (zone_overhead_read x y o);
        beneath_west = λ i. rw (agree.from_beneath_west i) at (zone_beneath_west_read x y i);
        overhead_west = λ i. rw (agree.from_overhead_west i) at (zone_overhead_west_read x y i);
      }
    where
      agree : ZonesAgree s x y (zone_beneath s x y)
      agree = zones_agree x y o off
