-- What a descent knows of a point on an accepted sheet: the places between which its thing lies, and where they meet the plain reading.
use mathlib.Core.Path.{◌≡◌, refl, sym, ap, ◌∙◌}
use mathlib.Core.Bool.{Bool, true, false}
use mathlib.Core.Logic.{◌⊎◌, inl, inr, ⊎_elim}
use Prim.Native.Nat.{ℕ, suc, ◌+◌, ◌*◌, ◌-◌, ◌<◌, ◌≤◌}
use native.Mathlib.Nat.{le_of_lt, eq-or-lt_of_le}
use native.Mathlib.Omega.{arith, by_contra}
use Rattle.subdivision.specs.declared.Answer.{Answer}
use Rattle.subdivision.specs.declared.Answer.TheVariants.{Vertex, Edge, Zone}
use Rattle.subdivision.specs.declared.Side.{Side}
use Rattle.subdivision.specs.declared.Side.TheVariants.{Below, On, Above}
use Rattle.subdivision.specs.Formula.{holds}
use Rattle.subdivision.specs.Sheet.{Sheet, west_margin, east_margin, vertex_count, edge_count, zone_count, x_of, y_of, west_of, east_of, above_of, below_of, segment}
use Rattle.subdivision.specs.Lines.{point_part, edge_part, covers, side_at}
use Rattle.subdivision.specs.Accepted.{Accepted}
use Rattle.subdivision.specs.Index.{place_of, zone_at}
use Rattle.subdivision.specs.Reading.{is_vertex, first_zone, reading_line, zone_beneath, plain_reading}
use Rattle.subdivision.specs.Placed.{OnSheet, IsOn, OffVertices, OffEdges, Covers, Under, Over}
use Rattle.subdivision.specs.Descent.{on_edge}
use Rattle.theory.proofs.Chains.{accepted_above}
use Rattle.theory.proofs.ColumnFans.{fan_side, has_fan, fan_crosses, fan_level}
use Rattle.theory.proofs.ColumnNeighbours.{lower_on_half}
use Rattle.theory.proofs.ColumnReadings.{ReadUnder}
use Rattle.theory.proofs.Columns.{HighestUnder, Kept}
use Rattle.theory.proofs.Crossings.{Crosses}
use Rattle.theory.proofs.Decide.{means, denies}
use Rattle.theory.proofs.Drawn.{accepted_drawn, drawing_of}
use Rattle.theory.proofs.DrawnRules.{drawn_kept}
use Rattle.theory.proofs.OneThing.{by_plain, end_here, vertex_plain, edge_plain}
use Rattle.theory.proofs.Places.{first_is_zone, first_has_place_0, place_rises, place_within, zone_at_place, separator}
use Rattle.theory.proofs.Readings.{plain_view, view_order, view_on, from_beneath_lem}
use Rattle.theory.proofs.Scale.{scaled, level, OneScale}
use Rattle.theory.proofs.Scaling.{one_scale}
use Rattle.theory.proofs.Separators.{places_rise, separator_one}
use Rattle.theory.proofs.Sides.{Stands, side_stands}
use Rattle.theory.proofs.SideViews.{SideView, by_view}
use Rattle.theory.proofs.Sights.{sight_read}

module _ (s : Sheet) (x y : ℕ) where
  -- what a side says of the point and an edge
  side_says : {t : Side} (e : ℕ) → side_at (segment s e) x y ≡ t → Stands t (point_part (segment s e) y) (edge_part (segment s e) x)
  side_says e h = side_stands (point_part (segment s e) y) (edge_part (segment s e) x) (sym h)

  -- an edge that the point is above is under it
  pub above_is_under : (e : ℕ) → side_at (segment s e) x y ≡ Above → Under s x y e
  above_is_under = side_says

  -- an edge that the point is below is over it
  pub below_is_over : (e : ℕ) → side_at (segment s e) x y ≡ Below → Over s x y e
  below_is_over = side_says

  -- place i is the first, or that of the zone above an edge that covers x strictly below the point
  abbrev pub Floor : ℕ → Type 0
  Floor i = (i ≡ 0) ⊎ ((g : ℕ) × ((g < edge_count s) × (Covers s x g × Under s x y g)) × (i ≡ place_of s (above_of s g)))

  -- place j is the last, or that of the zone below an edge that covers x strictly above the point
  abbrev pub Ceiling : ℕ → Type 0
  Ceiling j = (j ≡ zone_count s - 1) ⊎ ((g : ℕ) × ((g < edge_count s) × (Covers s x g × Over s x y g)) × (j ≡ place_of s (below_of s g)))

module _ (s : Sheet) (a : Accepted s) (x y : ℕ) (o : OnSheet s x y) where
  scale : OneScale s
  scale = one_scale s a.two

  kept : Kept (drawing_of s)
  kept = drawn_kept s (accepted_drawn s a)

  -- ---- the column of the plain reading

  view : SideView s x (λ e. covers (east_margin s) (segment s e) x) (reading_line s x)
  view = plain_view s a x y o

  -- edge e crosses the column
  abbrev Seen : ℕ → Type 0
  Seen = Crosses s view.column

  -- the height of edge e at the point's abscissa
  abbrev here : ℕ → ℕ
  here e = scaled s (2 * x) e

  covering_seen : (e : ℕ) → e < edge_count s → Covers s x e → Seen e
  covering_seen e b c = (b, (view.crosses e b).0 c)

  seen_covering : (e : ℕ) → Seen e → Covers s x e
  seen_covering e i = (view.crosses e i.0).1 i.1

  -- up the column places rise, from above an edge to below a higher one weakly
  seen_rises : (e f : ℕ) → Seen e → Seen f → scaled s (2 * view.column + 1) e < scaled s (2 * view.column + 1) f → place_of s (above_of s e) ≤ place_of s (below_of s f)
  seen_rises = places_rise (drawing_of s) kept (place_of s) (place_rises s a) view.column

  -- so they do from an edge lower at the point's abscissa
  lower_rises : (e f : ℕ) → Seen e → Seen f → here e < here f → place_of s (above_of s e) ≤ place_of s (below_of s f)
  lower_rises e f i j l = seen_rises e f i j (lower_on_half (drawing_of s) view.column here (view_order s a view) e f i j l)

  -- two edges of the column that separate the places below k from the others are one
  seen_one : (k e f : ℕ) → Seen e → Seen f → (place_of s (below_of s e) < k) × (k ≤ place_of s (above_of s e))
      → (place_of s (below_of s f) < k) × (k ≤ place_of s (above_of s f)) → e ≡ f
  seen_one = separator_one (drawing_of s) kept (place_of s) (place_rises s a) view.column

  -- ---- the separating edge

  -- an edge that covers x separates the places below k from the others
  pub separating : (k : ℕ) → 1 ≤ k → k < zone_count s
      → (e : ℕ) × ((e < edge_count s) × Covers s x e) × ((place_of s (below_of s e) < k) × (k ≤ place_of s (above_of s e)))
  separating k low high =
      let e = separator s a view.column k view.inside.0 view.inside.1 low high in
      (e.0, (e.1.0, seen_covering e.0 e.1), e.2)

  -- its places lie between a floor below k and a ceiling from k on
  pub separating_between : (i j k e : ℕ) → Floor s x y i → Ceiling s x y j → i < k → k ≤ j → e < edge_count s → Covers s x e
      → place_of s (below_of s e) < k → k ≤ place_of s (above_of s e)
      → (i ≤ place_of s (below_of s e)) × (place_of s (above_of s e) ≤ j)
  separating_between i j k e floor ceiling l h b c m n = (over floor, under ceiling)
    where
      seen : Seen e
      seen = covering_seen e b c

      over : Floor s x y i → i ≤ place_of s (below_of s e)
      over (inl z) = omega arith
      over (inr (g, (d, (r, u)), q)) = by_contra i (place_of s (below_of s e)) at_floor
        where
          at_floor : place_of s (below_of s e) < i → ⊥
          at_floor v =
              let one = seen_one i e g seen (covering_seen g d r) (v, omega arith) (omega (arith, place_rises s a g d), omega arith) in
              omega (arith, ap (λ f. place_of s (above_of s f)) one)

      under : Ceiling s x y j → place_of s (above_of s e) ≤ j
      under (inl z) = omega (arith, place_within s a (above_of s e) (accepted_above s a e b))
      under (inr (g, (d, (r, u)), q)) = by_contra (place_of s (above_of s e)) j at_ceiling
        where
          at_ceiling : j < place_of s (above_of s e) → ⊥
          at_ceiling v =
              let one = seen_one (suc j) e g seen (covering_seen g d r) (omega arith, omega arith) (omega arith, omega (arith, place_rises s a g d)) in
              omega (arith, ap (λ f. place_of s (below_of s f)) one)

  -- ---- where the floor is the ceiling

  -- a floor is at most at the zone below an edge that is not under the point
  floor_at_most : (i e : ℕ) → Floor s x y i → Seen e → level s y ≤ here e → i ≤ place_of s (below_of s e)
  floor_at_most i e (inl z) j l = omega arith
  floor_at_most i e (inr (g, (b, (c, u)), q)) j l =
      omega (arith, lower_rises g e (covering_seen g b c) j (omega (arith, (scale.under_level g x y b).0 u)))

  -- a ceiling is at least at the zone above an edge that is not over the point
  ceiling_at_least : (i e : ℕ) → Ceiling s x y i → Seen e → here e ≤ level s y → place_of s (above_of s e) ≤ i
  ceiling_at_least i e (inl z) j l = omega (arith, place_within s a (above_of s e) (accepted_above s a e j.0))
  ceiling_at_least i e (inr (g, (b, (c, u)), q)) j l =
      omega (arith, lower_rises e g j (covering_seen g b c) (omega (arith, (scale.over_level g x y b).0 u)))

  -- a vertex at the abscissa has an edge of the column at its height
  vertex_seen : (v : ℕ) → v < vertex_count s → x_of s v ≡ x → (e : ℕ) × Seen e × (here e ≡ level s (y_of s v))
  vertex_seen v b = by_view s (λ c z. x_of s v ≡ z → (e : ℕ) × Crosses s c e × (scaled s (2 * z) e ≡ level s (y_of s v))) fan view
    where
      fan : (eastern : Bool) (c : ℕ) → west_margin s ≤ c → c < east_margin s → x_of s v ≡ fan_side eastern c
          → (e : ℕ) × Crosses s c e × (scaled s (2 * fan_side eastern c) e ≡ level s (y_of s v))
      fan eastern c l h q =
          let e = has_fan s a.three eastern c v l h b q in
          (e.0, fan_crosses s a.two eastern c v e.0 q e.1, fan_level s a.two eastern (fan_side eastern c) v e.0 q e.1)

  -- a place that is both
  module _ (i : ℕ) (floor : Floor s x y i) (ceiling : Ceiling s x y i) where
    -- no edge of the column has the point's level
    off_level : (e : ℕ) → Seen e → here e ≡ level s y → ⊥
    off_level e j q =
        omega (arith, place_rises s a e j.0, floor_at_most i e floor j (omega arith), ceiling_at_least i e ceiling j (omega arith))

    off_vertices : OffVertices s x y
    off_vertices v b (p, q) = let e = vertex_seen v b p in off_level e.0 e.1 (e.2 ∙ ap (level s) q)

    off_edges : OffEdges s x y
    off_edges e b j = go (eq-or-lt_of_le j.0.1)
      where
        go : (x ≡ x_of s (east_of s e)) ⊎ (x < x_of s (east_of s e)) → ⊥
        go (inl q) = off_vertices (east_of s e) (a.two.0 e b).0.1 (end_here s a x y (east_of s e) e b j (sym q) (inr refl))
        go (inr l) = off_level e (covering_seen e b (inl (j.0.0, l))) ((scale.on_level e x y b).0 j.1)

    -- the highest edge under the point has the floor's place above it
    highest_at_floor : (e : ℕ) → HighestUnder (drawing_of s) view.column here (level s y) e → i ≡ place_of s (above_of s e)
    highest_at_floor e ((j, u), top) = omega (arith, at_most floor, ceiling_at_least i e ceiling j (le_of_lt u))
      where
        at_most : Floor s x y i → i ≤ place_of s (above_of s e)
        at_most (inl z) = omega arith
        at_most (inr (g, (b, (c, v)), q)) =
            let k = covering_seen g b c in
            ⊎_elim
            (λ h. omega (arith, ap (λ f. place_of s (above_of s f)) (kept.apart view.column g e k j h)))
            (λ l. omega (arith, place_rises s a e j.0, seen_rises g e k j l))
            (eq-or-lt_of_le (top g k ((scale.under_level g x y b).0 v)))

    -- where no edge is under the point, the floor is the first place
    bare_floor : ((g : ℕ) → Seen g → here g < level s y → ⊥) → i ≡ place_of s (first_zone s)
    bare_floor none = go floor
      where
        go : Floor s x y i → i ≡ place_of s (first_zone s)
        go (inl z) = z ∙ sym (first_has_place_0 s a)
        go (inr (g, (b, (c, u)), q)) = absurd (none g (covering_seen g b c) ((scale.under_level g x y b).0 u))

    zone_at_floor : zone_at s i ≡ zone_beneath s x y
    unfolding zone_beneath
    zone_at_floor = go (sight_read (from_beneath_lem s a view y) (above_of s) (first_zone s))
      where
        go : {z : ℕ} → ReadUnder (drawing_of s) view.column here (level s y) (first_zone s) z → zone_at s i ≡ z
        go (inl (e, top, q)) = ap (zone_at s) (highest_at_floor e top) ∙ (zone_at_place s a (above_of s e) (accepted_above s a e top.0.0.0) ∙ sym q)
        go (inr (none, q)) = ap (zone_at s) (bare_floor none) ∙ (zone_at_place s a (first_zone s) (first_is_zone s a) ∙ sym q)

    -- the plain reading is the zone at that place
    pub meeting_plain : Zone (zone_at s i) ≡ plain_reading s x y
    meeting_plain =
        by_plain s x y (λ r. Zone (zone_at s i) ≡ r) (λ v b j. absurd (off_vertices v b j)) (λ n e b j. absurd (off_edges e b j)) (λ n m. ap Zone zone_at_floor)

  -- ---- on an examined edge

  -- of a covering edge on which the point lies, the end at the point, or the edge itself, is the plain reading
  pub on_edge_plain : (e : ℕ) → e < edge_count s → Covers s x e → side_at (segment s e) x y ≡ On → on_edge s x y e ≡ plain_reading s x y
  on_edge_plain e b c h = go (holds (is_vertex s x y (west_of s e))) (holds (is_vertex s x y (east_of s e))) refl refl
    where
      on : IsOn s x y e
      on = view_on s a view y e (covering_seen e b c) ((scale.on_level e x y b).0 (side_says s x y e h))

      go : (p q : Bool) → holds (is_vertex s x y (west_of s e)) ≡ p → holds (is_vertex s x y (east_of s e)) ≡ q
          → ◌≡◌ {A = Answer} (elim p [ true ↦ Vertex (west_of s e) | false ↦ elim q [ true ↦ Vertex (east_of s e) | false ↦ Edge e ] ]) (plain_reading s x y)
      go true q i j = vertex_plain s a x y (west_of s e) (a.two.0 e b).0.0 (means (is_vertex s x y (west_of s e)) i)
      go false true i j = vertex_plain s a x y (east_of s e) (a.two.0 e b).0.1 (means (is_vertex s x y (east_of s e)) j)
      go false false i j = edge_plain s a x y e b on (denies (is_vertex s x y (west_of s e)) i) (denies (is_vertex s x y (east_of s e)) j)
