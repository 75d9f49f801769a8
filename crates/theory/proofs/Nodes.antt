-- The nodes of a transect by their heights to the common scale, and the edges of a column beside the transect that run through them.
use mathlib.Core.Path.{◌≡◌, refl, sym, ap, ◌∙◌}
use mathlib.Core.Bool.{Bool, true, false}
use mathlib.Core.Logic.Iff
use mathlib.Core.Logic.{⊎_elim, ◌↔◌}
use Prim.Native.Nat.{ℕ, zero, suc, ◌*◌, ◌<◌, ◌≤◌}
use native.Mathlib.Decide.{dec_le, ℕ_discrete}
use native.Mathlib.Nat.{mul-one}
use native.Mathlib.Omega.{arith}
use Rattle.subdivision.specs.declared.Segment.{Segment}
use Rattle.subdivision.specs.Sheet.{Sheet, west_margin, east_margin, x_of, y_of, segment}
use Rattle.subdivision.specs.Lines.{width, edge_part}
use Rattle.subdivision.specs.Accepted.{Lower}
use Rattle.theory.proofs.ColumnFans.{fan_side, passing_crosses, crossing_passes, OfOneVertex, columns_meet, has_fan, end_vertex, fan_crosses, fan_level}
use Rattle.theory.proofs.Columns.{Kept}
use Rattle.theory.proofs.Drawn.{Drawn, drawing_of}
use Rattle.theory.proofs.DrawnRules.{drawn_kept}
use Rattle.theory.proofs.FanOrder.{end_of, OfFan}
use Rattle.theory.proofs.Heights.{height_at}
use Rattle.theory.proofs.NoCrossing.{no_crossing}
use Rattle.theory.proofs.Crossings.{Crosses, NoCrossing}
use Rattle.theory.proofs.Scale.{scaled, level, OneScale}
use Rattle.theory.proofs.Scaling.{one_scale}
use Rattle.theory.proofs.Transects.{Node, corner, passing, OnTransect, LowerNode, LevelNode}

-- lower at a whole abscissa, by the side test's numbers
lower_at : (g h : Segment) (x : ℕ) → (edge_part g x * width h < edge_part h x * width g) ↔ Lower (2 * x) g h
lower_at g h x = rw (height_at g x, height_at h x) (doubled (edge_part g x) (width h) (edge_part h x) (width g))
  where
    doubled : (m w n v : ℕ) → (m * w < n * v) ↔ (2 * m * w < 2 * n * v)
    doubled m w n v = (λ l. omega arith, λ l. omega arith)

module _ (s : Sheet) where
  -- the height of a node at the abscissa x, to the common scale
  abbrev pub node_height : ℕ → Node → ℕ
  node_height x (corner v) = level s (y_of s v)
  node_height x (passing e) = scaled s (2 * x) e

  -- edge e is at a node of the transect at x: as high as the node there
  abbrev pub AtNode : ℕ → Node → ℕ → Type 0
  AtNode x p e = OnTransect s x p × (scaled s (2 * x) e ≡ node_height x p)

  -- edge e runs through a node on its east or on its west: it is of the vertex's fan there, or it is the edge that passes
  abbrev pub Through : Bool → Node → ℕ → Type 0
  Through eastern (corner v) e = OfFan s eastern v e
  Through eastern (passing f) e = e ≡ f

module _ (s : Sheet) (a : Drawn s) where
  scale : OneScale s
  scale = one_scale s a.two

  clear : NoCrossing s
  clear = no_crossing s a.one a.two a.four

  kept : Kept (drawing_of s)
  kept = drawn_kept s a

  -- of two nodes that is lower whose height to the common scale is less
  pub lower_node_less : (x : ℕ) (p q : Node) → OnTransect s x p → OnTransect s x q → LowerNode s x p q ↔ (node_height s x p < node_height s x q)
  lower_node_less x (corner u) (corner v) o n = rw (mul-one (y_of s u), mul-one (y_of s v)) (scale.level_less (y_of s u) (y_of s v))
  lower_node_less x (corner u) (passing f) o n = rw (mul-one (edge_part (segment s f) x)) (scale.over_level f x (y_of s u) n.0)
  lower_node_less x (passing e) (corner v) o n = rw (mul-one (edge_part (segment s e) x)) (scale.under_level e x (y_of s v) o.0)
  lower_node_less x (passing e) (passing f) o n = Iff.trans (lower_at (segment s e) (segment s f) x) (scale.lower_less (2 * x) e f o.0 n.0)

  -- of two nodes that is lower whose edges are
  pub lower_by_edges : (x : ℕ) (p q : Node) (e f : ℕ) → AtNode s x p e → AtNode s x q f → LowerNode s x p q ↔ (scaled s (2 * x) e < scaled s (2 * x) f)
  lower_by_edges x p q e f o n = rw (o.1, n.1) (lower_node_less x p q o.0 n.0)

  -- equally high nodes have equal heights to the common scale
  level_node_same : (x : ℕ) (p q : Node) → OnTransect s x p → OnTransect s x q → LevelNode s x p q → node_height s x p ≡ node_height s x q
  level_node_same x p q o n i = omega (arith, not_less p q o n i, not_less q p n o (sym i))
    where
      not_less : (p q : Node) → OnTransect s x p → OnTransect s x q → LevelNode s x p q → ¬ (node_height s x p < node_height s x q)
      not_less p q o n i l = omega (arith, i, (lower_node_less x p q o n).1 l)

  -- a transect that has a node is between the margins
  node_inside : (x : ℕ) (p : Node) → OnTransect s x p → (west_margin s ≤ x) × (x ≤ east_margin s)
  node_inside x (corner v) (b, i) = rw (← i) (a.one.0 v b).1
  node_inside x (passing e) (b, l) = omega (arith, kept.inside e b, l)

  -- every transect that has a node is beside a column between the margins: where its eastern fans are, or where its western ones are
  pub by_column : (P : ℕ → Type 0) → ((eastern : Bool) (c : ℕ) → west_margin s ≤ c → c < east_margin s → P (fan_side eastern c))
      → (x : ℕ) (p : Node) → OnTransect s x p → P x
  by_column P f x p o = go x (node_inside x p o) (dec_le (east_margin s) x)
    where
      go : (x : ℕ) → (west_margin s ≤ x) × (x ≤ east_margin s) → Dec (east_margin s ≤ x) → P x
      go x i (no h) = f true x i.0 (omega arith)
      go zero i (yes h) = absurd (omega (arith, a.margins.1))
      go (suc c) i (yes h) = f false c (omega (arith, a.margins.1)) (omega (arith, i))

  -- an edge that passes an abscissa is of no fan of a vertex there
  passing_no_end : (eastern : Bool) (x v e : ℕ) → OnTransect s x (passing e) → x_of s v ≡ x → OfFan s eastern v e → ⊥
  passing_no_end true x v e (b, l) i f = omega (arith, l, ap (x_of s) f.1)
  passing_no_end false x v e (b, l) i f = omega (arith, l, ap (x_of s) f.1)

  -- a column, and the transect beside it where its eastern fans are, or where its western ones are
  module _ (eastern : Bool) (c : ℕ) where
    abbrev here : ℕ
    here = fan_side eastern c

    through_crosses : (p : Node) (e : ℕ) → OnTransect s here p → Through s eastern p e → Crosses s c e
    through_crosses (corner v) e o t = fan_crosses s a.two eastern c v e o.1 t
    through_crosses (passing f) e o t = rw t (passing_crosses s eastern c f o)

    through_is_at : (p : Node) (e : ℕ) → OnTransect s here p → Through s eastern p e → AtNode s here p e
    through_is_at (corner v) e o t = (o, fan_level s a.two eastern here v e o.1 t)
    through_is_at (passing f) e o t = (o, ap (scaled s (2 * here)) t)

    -- between the margins, a node has an edge of the column through it
    edge_through : west_margin s ≤ c → c < east_margin s → (p : Node) → OnTransect s here p → (e : ℕ) × Through s eastern p e
    edge_through w k (corner v) o = has_fan s a.three eastern c v w k o.0 o.1
    edge_through w k (passing e) o = (e, refl)

    -- an edge of one fan with an edge through a node runs through the node
    through_with : (p : Node) (e f : ℕ) → OnTransect s here p → OfOneVertex s eastern eastern here e f → Through s eastern p f → Through s eastern p e
    through_with (corner v) e f o (u, b, i, (j, h)) t = (j.0, j.1 ∙ sym h.1 ∙ t.1)
    through_with (passing g) e f o (u, b, i, (j, h)) t = absurd (passing_no_end eastern here u g o i (rw t at h))

    -- an edge of the column at a node runs through it
    pub at_is_through : (p : Node) (e : ℕ) → Crosses s c e → AtNode s here p e → Through s eastern p e
    at_is_through p e b (o, i) = go (edge_through (omega (arith, b.1, kept.inside e b.0)) (omega (arith, b.1, kept.inside e b.0)) p o)
      where
        go : (f : ℕ) × Through s eastern p f → Through s eastern p e
        go (f, t) =
            ⊎_elim (λ (j : e ≡ f). rw j t) (λ j. through_with p e f o j t)
            (columns_meet s clear eastern eastern c c here e f refl refl b (through_crosses p f o t) (i ∙ sym (through_is_at p f o t).1))

    -- between the margins, a node has an edge of the column at it
    pub edge_at : west_margin s ≤ c → c < east_margin s → (p : Node) → OnTransect s here p → (e : ℕ) × Crosses s c e × AtNode s here p e
    edge_at w k p o = let e = edge_through w k p o in (e.0, through_crosses p e.0 o e.1, through_is_at p e.0 o e.1)

    -- an edge of the column is at a node
    pub node_at : (e : ℕ) → Crosses s c e → (p : Node) × AtNode s here p e
    node_at e b = go (ℕ_discrete (x_of s (end_of s eastern e)) here)
      where
        go : Dec (x_of s (end_of s eastern e) ≡ here) → (p : Node) × AtNode s here p e
        go (yes i) = let v = end_of s eastern e in (corner v, through_is_at (corner v) e (end_vertex s a.two eastern e b.0, i) (b.0, refl))
        go (no n) = (passing e, through_is_at (passing e) e (crossing_passes s eastern c e b n) refl)

    -- an edge runs through one node
    through_one : (p q : Node) (e : ℕ) → OnTransect s here p → OnTransect s here q → Through s eastern p e → Through s eastern q e → p ≡ q
    through_one (corner v) (corner u) e o n t r = ap corner (sym t.1 ∙ r.1)
    through_one (corner v) (passing f) e o n t r = absurd (passing_no_end eastern here v f n o.1 (rw r at t))
    through_one (passing f) (corner v) e o n t r = absurd (passing_no_end eastern here v f o n.1 (rw t at r))
    through_one (passing f) (passing g) e o n t r = ap passing (sym t ∙ r)

    -- between the margins, nodes of one height are one
    same_height : west_margin s ≤ c → c < east_margin s → (p q : Node) → OnTransect s here p → OnTransect s here q → node_height s here p ≡ node_height s here q → p ≡ q
    same_height w k p q o n i =
        let e = edge_at w k p o in
        through_one p q e.0 o n (at_is_through p e.0 e.1 e.2) (at_is_through q e.0 e.1 (n, e.2.1 ∙ i))

  -- no two nodes of a transect are equally high
  pub node_apart : (x : ℕ) (p q : Node) → OnTransect s x p → OnTransect s x q → LevelNode s x p q → p ≡ q
  node_apart x p q o n i =
      by_column (λ x. OnTransect s x p → OnTransect s x q → node_height s x p ≡ node_height s x q → p ≡ q)
      (λ eastern c w k. same_height eastern c w k p q) x p o o n (level_node_same x p q o n i)
