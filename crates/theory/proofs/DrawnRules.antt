-- A sheet that keeps rules 1 to 5 keeps, as edges in columns, what the rules come to there.
use mathlib.Core.Path.{◌≡◌, refl, sym, ap, ◌∙◌}
use mathlib.Core.Bool.{Bool, true, false, not}
use mathlib.Core.Logic.{◌⊎◌, inl, inr, ⊎_elim}
use Prim.Native.Nat.{ℕ, suc, ◌+◌, ◌*◌, ◌<◌, ◌≤◌}
use native.Mathlib.Decide.{ℕ_discrete}
use native.Mathlib.Nat.{lt_irrefl}
use native.Mathlib.Numerals.{add-one}
use native.Mathlib.Omega.{arith, by_contra}
use Rattle.subdivision.specs.Limits.{highest_coordinate}
use Rattle.subdivision.specs.Sheet.{Sheet, west_margin, east_margin, vertex_count, edge_count, x_of, y_of, west_of, east_of, above_of, below_of}
use Rattle.subdivision.specs.Accepted.{HasEastern, NextOnMargin}
use Rattle.theory.proofs.FanOrder.{end_of}
use Rattle.theory.proofs.ColumnNeighbours.{beside_neighbours}
use Rattle.theory.proofs.Columns.{Rises, NextInColumn, TopThere, BottomThere, Kept}
use Rattle.theory.proofs.Crossings.{Crosses, NoCrossing}
use Rattle.theory.proofs.Scale.{scaled, level}
use Rattle.theory.proofs.Scaling.{one_scale}
use Rattle.theory.proofs.NoCrossing.{no_crossing}
use Rattle.theory.proofs.Drawn.{Drawn, drawing_of}
use Rattle.theory.proofs.ColumnFans.{fan_side, passing_crosses, crossing_passes, OfOneVertex, columns_meet, has_fan, end_vertex, fan_crosses, fan_level, fans_meet_lem, next_of_fan, top_of_fan, bottom_of_fan}

module _ (s : Sheet) (k : Drawn s) where
  clear : NoCrossing s
  clear = no_crossing s k.one k.two k.four

  -- rules 1 and 2: an edge runs to the east, between the margins
  edge_inside : (e : ℕ) → e < edge_count s
      → ((west_margin s ≤ x_of s (west_of s e)) × (x_of s (west_of s e) < x_of s (east_of s e))) × (x_of s (east_of s e) ≤ east_margin s)
  edge_inside e b =
      (((k.one.0 (west_of s e) (end_vertex s k.two true e b)).1.0, k.two.1.0 e b), (k.one.0 (east_of s e) (end_vertex s k.two false e b)).1.1)

  -- rule 1: an edge is nowhere above the highest ordinate
  edge_capped : (c e : ℕ) → e < edge_count s → (2 * x_of s (west_of s e) ≤ c) × (c ≤ 2 * x_of s (east_of s e)) → scaled s c e ≤ level s highest_coordinate
  edge_capped c e b l = (one_scale s k.two).scaled_at_most c e highest_coordinate b l.0 l.1 (in_range_lem true) (in_range_lem false)
    where
      in_range_lem : (eastern : Bool) → y_of s (end_of s eastern e) ≤ highest_coordinate
      in_range_lem eastern = (k.one.0 (end_of s eastern e) (end_vertex s k.two eastern e b)).0.1.1

  -- ---- rule 3

  -- over an abscissa z an edge is carried on into a column between the margins, by itself or by an edge of the vertex where it ends
  carried_on : (eastern : Bool) (x y z e : ℕ) → z ≡ fan_side (not eastern) x → z ≡ fan_side eastern y → west_margin s ≤ y → y < east_margin s → Crosses s x e
      → (f : ℕ) × Crosses s y f × (scaled s (2 * z) f ≡ scaled s (2 * z) e)
  carried_on eastern x y z e i j l m c = go (ℕ_discrete (x_of s (end_of s (not eastern) e)) (fan_side (not eastern) x))
    where
      go : Dec (x_of s (end_of s (not eastern) e) ≡ fan_side (not eastern) x) → (f : ℕ) × Crosses s y f × (scaled s (2 * z) f ≡ scaled s (2 * z) e)
      go (no n) = (e, passing_crosses s eastern y e (rw (sym i ∙ j) at (crossing_passes s (not eastern) x e c n)), refl)
      go (yes h) =
          let v = end_of s (not eastern) e in
          let there = h ∙ sym i in
          let r = has_fan s k.three eastern y v l m (end_vertex s k.two (not eastern) e c.0) (there ∙ j) in
          (r.0, fan_crosses s k.two eastern y v r.0 (there ∙ j) r.1, fans_meet_lem s k.two eastern (not eastern) z v r.0 e there r.1 (c.0, refl))

  -- ---- rule 5, beside a vertex

  -- neighbours of a column that meet on its west are neighbours of an eastern fan
  fork_agrees : (x e f : ℕ) → NextInColumn (drawing_of s) x e f → scaled s (2 * x) e ≡ scaled s (2 * x) f → above_of s e ≡ below_of s f
  fork_agrees x e f n h =
      ⊎_elim (λ (i : e ≡ f). absurd (lt_irrefl _ (rw i at n.1.0))) by_vertex (columns_meet s clear true true x x x e f refl refl n.0.0 n.0.1 h)
    where
      by_vertex : OfOneVertex s true true x e f → above_of s e ≡ below_of s f
      by_vertex (v, b, i, (p, q)) = (k.five v b).0.1 e p.0 f q.0 (next_of_fan s k.two true x v i e f p q n)

  -- the top edges on the two sides of an abscissa that meet there are one, or the top edges of one vertex
  tops_agree : (x e f : ℕ) → TopThere (drawing_of s) x (scaled s (2 * suc x)) e → TopThere (drawing_of s) (suc x) (scaled s (2 * suc x)) f
      → scaled s (2 * suc x) e ≡ scaled s (2 * suc x) f → above_of s e ≡ above_of s f
  tops_agree x e f t u h = ⊎_elim (ap (above_of s)) by_vertex (columns_meet s clear false true x (suc x) (suc x) e f refl refl t.0 u.0 h)
    where
      by_vertex : OfOneVertex s false true (suc x) e f → above_of s e ≡ above_of s f
      by_vertex (v, b, i, (p, q)) = ((k.five v b).1.0 e p.0 f q.0).0 (top_of_fan s k.two false x v i e p t, top_of_fan s k.two true (suc x) v i f q u)

  -- the bottom edges likewise
  bottoms_agree : (x e f : ℕ) → BottomThere (drawing_of s) x (scaled s (2 * suc x)) e → BottomThere (drawing_of s) (suc x) (scaled s (2 * suc x)) f
      → scaled s (2 * suc x) e ≡ scaled s (2 * suc x) f → below_of s e ≡ below_of s f
  bottoms_agree x e f t u h = ⊎_elim (ap (below_of s)) by_vertex (columns_meet s clear false true x (suc x) (suc x) e f refl refl t.0 u.0 h)
    where
      by_vertex : OfOneVertex s false true (suc x) e f → below_of s e ≡ below_of s f
      by_vertex (v, b, i, (p, q)) = ((k.five v b).1.0 e p.0 f q.0).1 (bottom_of_fan s k.two false x v i e p t, bottom_of_fan s k.two true (suc x) v i f q u)

  -- ---- rule 5, the margin

  -- the height of edge e at the western margin
  abbrev margin_height : ℕ → ℕ
  margin_height e = scaled s (2 * west_margin s) e

  -- an edge of the first column starts at the margin
  starts_at_margin : (e : ℕ) → Crosses s (west_margin s) e → x_of s (west_of s e) ≡ west_margin s
  starts_at_margin e c = omega (arith, (edge_inside e c.0).0.0, c.1.0)

  -- an edge of the first column is at the margin as high as its western vertex
  margin_level : (e : ℕ) → Crosses s (west_margin s) e → margin_height e ≡ level s (y_of s (west_of s e))
  margin_level e c = fan_level s k.two true (west_margin s) (west_of s e) e (starts_at_margin e c) (c.0, refl)

  level_at_most : (y z : ℕ) → level s y ≤ level s z → y ≤ z
  level_at_most y z l = by_contra y z (λ m. omega (arith, ((one_scale s k.two).level_less z y).0 m))

  -- two neighbours of the first column that start apart
  module _ (e f : ℕ) (n : NextInColumn (drawing_of s) (west_margin s) e f) (h : margin_height e < margin_height f) where
    -- no other edge of the column starts between them
    none_starts_between : (g : ℕ) → Crosses s (west_margin s) g → (margin_height g ≤ margin_height e) ⊎ (margin_height f ≤ margin_height g)
    none_starts_between g c =
        ⊎_elim (λ l. inl (clear.near (west_margin s) g e c n.0.0 l)) (λ l. inr (clear.near (west_margin s) f g n.0.1 c l))
        (beside_neighbours (drawing_of s) (west_margin s) e f g n c)

    -- they start at vertices that are neighbours on the margin
    next_on_margin_lem : NextOnMargin s (west_of s e) (west_of s f)
    next_on_margin_lem = ((starts_at_margin e n.0.0, starts_at_margin f n.0.1), (rising, next))
      where
        rising : y_of s (west_of s e) < y_of s (west_of s f)
        rising = ((one_scale s k.two).level_less _ _).1 (rw (← margin_level e n.0.0, ← margin_level f n.0.1) h)

        next : (t : ℕ) → t < vertex_count s → (x_of s t ≡ west_margin s) × (y_of s (west_of s e) < y_of s t) → y_of s (west_of s f) ≤ y_of s t
        next t b m = go ((k.three t b).1.0 m.0)
          where
            go : HasEastern s t → y_of s (west_of s f) ≤ y_of s t
            go (g, c, i) =
                let there = fan_level s k.two true (west_margin s) t g m.0 (c, i) in
                ⊎_elim
                (λ (l : margin_height g ≤ margin_height e). omega (arith, m.1, level_at_most (y_of s t) (y_of s (west_of s e)) (rw (← there, ← margin_level e n.0.0) l)))
                (λ (l : margin_height f ≤ margin_height g). level_at_most (y_of s (west_of s f)) (y_of s t) (rw (← there, ← margin_level f n.0.1) l))
                (none_starts_between g (fan_crosses s k.two true (west_margin s) t g m.0 (c, i)))

    -- the lower one is the top edge where it starts
    lower_is_top : TopThere (drawing_of s) (west_margin s) (scaled s (2 * west_margin s)) e
    lower_is_top =
        (n.0.0, λ g c i. ⊎_elim (λ l. l) (λ l. omega (arith, h, i, clear.near (west_margin s) f g n.0.1 c l)) (beside_neighbours (drawing_of s) (west_margin s) e f g n c))

    -- the upper one is the bottom edge where it starts
    upper_is_bottom : BottomThere (drawing_of s) (west_margin s) (scaled s (2 * west_margin s)) f
    upper_is_bottom =
        (n.0.1, λ g c i. ⊎_elim (λ l. omega (arith, h, i, clear.near (west_margin s) g e c n.0.0 l)) (λ l. l) (beside_neighbours (drawing_of s) (west_margin s) e f g n c))

    margin_agrees : above_of s e ≡ below_of s f
    margin_agrees =
        (k.five (west_of s e) (end_vertex s k.two true e n.0.0.0)).1.1 (west_of s f) (end_vertex s k.two true f n.0.1.0) next_on_margin_lem e n.0.0.0 f n.0.1.0 (
          top_of_fan s k.two true (west_margin s) (west_of s e) (starts_at_margin e n.0.0) e (n.0.0.0, refl) lower_is_top,
          bottom_of_fan s k.two true (west_margin s) (west_of s f) (starts_at_margin f n.0.1) f (n.0.1.0, refl) upper_is_bottom,
        )

  -- rules 1 to 5, as edges in columns
  pub drawn_kept : Kept (drawing_of s)
  drawn_kept =
      record {
        inside = edge_inside;
        capped = λ x e c. ((edge_capped (2 * x) e c.0 (omega (arith, c.1)), edge_capped (2 * suc x) e c.0 (omega (arith, c.1))), edge_capped (2 * x + 1) e c.0 (omega (arith, c.1)));
        apart = clear.apart;
        near = clear.near;
        far = λ x e f a b l. rw add-one at (clear.far x e f a b l);
        onward = λ x e l c. carried_on true x (suc x) (suc x) e refl refl (omega (arith, (edge_inside e c.0).0.0, c.1.0)) l c;
        back = λ x e l c. carried_on false (suc x) x (suc x) e refl refl l (omega (arith, (edge_inside e c.0).1, c.1.1)) c;
        fork = fork_agrees;
        margin = margin_agrees;
        tops = tops_agree;
        bottoms = bottoms_agree;
      }

  -- the edges of a column stand at both its abscissas as on its half line, weakly
  pub column_rises : (eastern : Bool) (c : ℕ) → Rises (drawing_of s) c (scaled s (2 * fan_side eastern c))
  column_rises true = drawn_kept.near
  column_rises false = drawn_kept.far
