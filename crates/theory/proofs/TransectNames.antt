-- The transect theorem: on a sheet that keeps rules 1 to 5 the zone over a node of a transect is the zone under the next node up.
use mathlib.Core.Path.{◌≡◌, refl, sym, ap, ◌∙◌}
use mathlib.Core.Bool.{Bool, true, false}
use mathlib.Core.Logic.{◌⊎◌, inl, inr}
use Prim.Native.Nat.{ℕ, ◌*◌, ◌<◌, ◌≤◌}
use Rattle.subdivision.specs.Sheet.{Sheet, west_margin, east_margin, edge_count, x_of, above_of, below_of}
use Rattle.subdivision.specs.Accepted.{Highest, Lowest}
use Rattle.theory.proofs.Beside.{line_beside}
use Rattle.theory.proofs.ColumnFans.{fan_side, top_of_fan, bottom_of_fan}
use Rattle.theory.proofs.ColumnNames.{column_names_agree}
use Rattle.theory.proofs.Columns.{TopThere, BottomThere, TopOf, BottomOf, NextInColumn, Kept}
use Rattle.theory.proofs.Drawn.{Drawn, drawing_of}
use Rattle.theory.proofs.DrawnRules.{drawn_kept, column_rises}
use Rattle.theory.proofs.FanOrder.{end_of, fan_order_lem}
use Rattle.theory.proofs.Meetings.{has_top_there, has_bottom_there, next_meeting, top_meeting, bottom_meeting}
use Rattle.theory.proofs.Nodes.{AtNode, lower_by_edges, by_column, at_is_through, edge_at, node_at}
use Rattle.theory.proofs.Crossings.{Crosses}
use Rattle.theory.proofs.Scale.{scaled}
use Rattle.theory.proofs.Transects.{Node, corner, passing, OnTransect, NextNode, NoneHigher, NoneLower, ZoneOver, ZoneUnder}

-- what is so on one side is so on the west or on the east
on_side : (P : Bool → Type 0) (eastern : Bool) → P eastern → P false ⊎ P true
on_side P true p = inr p
on_side P false p = inl p

-- where the edge chosen on each side is one, and the two have one name, any two edges chosen have one name
one_name : (count : ℕ) (Chosen : Bool → ℕ → Type 0) (name : ℕ → ℕ)
    → ((eastern : Bool) (e f : ℕ) → e < count → f < count → Chosen eastern e → Chosen eastern f → e ≡ f)
    → ((e f : ℕ) → e < count → f < count → Chosen false e → Chosen true f → name e ≡ name f)
    → (e f : ℕ) → e < count → f < count → Chosen false e ⊎ Chosen true e → Chosen false f ⊎ Chosen true f → name e ≡ name f
one_name count Chosen name one across e f b c (inl p) (inl q) = ap name (one false e f b c p q)
one_name count Chosen name one across e f b c (inl p) (inr q) = across e f b c p q
one_name count Chosen name one across e f b c (inr p) (inl q) = sym (across f e c b q p)
one_name count Chosen name one across e f b c (inr p) (inr q) = ap name (one true e f b c p q)

module _ (s : Sheet) where
  -- edge e is the top edge of the eastern or western fan of vertex v
  abbrev FanTop : ℕ → Bool → ℕ → Type 0
  FanTop v eastern e = Highest s (line_beside eastern (x_of s v) 1) (λ g. end_of s eastern g ≡ v) e

  -- edge e is the bottom edge of the eastern or western fan of vertex v
  abbrev FanBottom : ℕ → Bool → ℕ → Type 0
  FanBottom v eastern e = Lowest s (line_beside eastern (x_of s v) 1) (λ g. end_of s eastern g ≡ v) e

module _ (s : Sheet) (a : Drawn s) where
  kept : Kept (drawing_of s)
  kept = drawn_kept s a

  -- ---- one zone over a node, and one under it

  -- a fan has one top edge
  fan_top_one : (v : ℕ) (eastern : Bool) (e f : ℕ) → e < edge_count s → f < edge_count s → FanTop s v eastern e → FanTop s v eastern f → e ≡ f
  fan_top_one v eastern e f b c t u = (fan_order_lem s a.two a.four eastern v).total e f (b, t.0) (c, u.0) (t.1 f c u.0) (u.1 e b t.0)

  -- a fan has one bottom edge
  fan_bottom_one : (v : ℕ) (eastern : Bool) (e f : ℕ) → e < edge_count s → f < edge_count s → FanBottom s v eastern e → FanBottom s v eastern f → e ≡ f
  fan_bottom_one v eastern e f b c t u = (fan_order_lem s a.two a.four eastern v).total e f (b, t.0) (c, u.0) (u.1 e b t.0) (t.1 f c u.0)

  -- one zone is over a node, whichever side it is read from
  pub zone_over_one : (x : ℕ) (p : Node) (z w : ℕ) → OnTransect s x p → ZoneOver s p z → ZoneOver s p w → z ≡ w
  zone_over_one x (corner v) z w o (e, b, (p, i)) (f, c, (q, j)) =
      sym i ∙ one_name (edge_count s) (FanTop s v) (above_of s) (fan_top_one v) (λ e f b c t u. ((a.five v o.0).1.0 e b f c).0 (t, u)) e f b c p q ∙ j
  zone_over_one x (passing e) z w o i j = sym i ∙ j

  -- and one is under it
  pub zone_under_one : (x : ℕ) (p : Node) (z w : ℕ) → OnTransect s x p → ZoneUnder s p z → ZoneUnder s p w → z ≡ w
  zone_under_one x (corner v) z w o (e, b, (p, i)) (f, c, (q, j)) =
      sym i ∙ one_name (edge_count s) (FanBottom s v) (below_of s) (fan_bottom_one v) (λ e f b c t u. ((a.five v o.0).1.0 e b f c).1 (t, u)) e f b c p q ∙ j
  zone_under_one x (passing e) z w o i j = sym i ∙ j

  -- ---- beside a column

  -- a column, and the transect beside it where its eastern fans are, or where its western ones are
  module _ (eastern : Bool) (c : ℕ) where
    abbrev here : ℕ
    here = fan_side eastern c

    -- the height of an edge there
    abbrev height : ℕ → ℕ
    height = scaled s (2 * here)

    -- edge e is the top edge of the column at a node
    abbrev pub TopAt : Node → ℕ → Type 0
    TopAt p e = TopThere (drawing_of s) c height e × AtNode s here p e

    -- edge e is the bottom edge of the column at a node
    abbrev BottomAt : Node → ℕ → Type 0
    BottomAt p e = BottomThere (drawing_of s) c height e × AtNode s here p e

    -- between the margins, a node has a top edge of the column at it
    has_top_at : west_margin s ≤ c → c < east_margin s → (p : Node) → OnTransect s here p → (e : ℕ) × TopAt p e
    has_top_at w k p o =
        let f = edge_at s a eastern c w k p o in
        let e = has_top_there (drawing_of s) c height (column_rises s a eastern c) f.0 f.1 in
        (e.0, (e.1, (o, e.2 ∙ f.2.1)))

    -- and a bottom edge
    has_bottom_at : west_margin s ≤ c → c < east_margin s → (p : Node) → OnTransect s here p → (e : ℕ) × BottomAt p e
    has_bottom_at w k p o =
        let f = edge_at s a eastern c w k p o in
        let e = has_bottom_there (drawing_of s) c height (column_rises s a eastern c) f.0 f.1 in
        (e.0, (e.1, (o, e.2 ∙ f.2.1)))

    -- the zone above the top edge at a node is over the node
    pub above_top : (p : Node) (e : ℕ) → TopAt p e → ZoneOver s p (above_of s e)
    above_top (corner v) e (t, o) =
        let f = at_is_through s a eastern c (corner v) e t.0 o in
        (e, f.0, (on_side (λ side. FanTop s v side e) eastern (top_of_fan s a.two eastern c v o.0.1 e f t), refl))
    above_top (passing f) e (t, o) = ap (above_of s) (sym (at_is_through s a eastern c (passing f) e t.0 o))

    -- the zone below the bottom edge at a node is under the node
    below_bottom : (p : Node) (e : ℕ) → BottomAt p e → ZoneUnder s p (below_of s e)
    below_bottom (corner v) e (t, o) =
        let f = at_is_through s a eastern c (corner v) e t.0 o in
        (e, f.0, (on_side (λ side. FanBottom s v side e) eastern (bottom_of_fan s a.two eastern c v o.0.1 e f t), refl))
    below_bottom (passing f) e (t, o) = ap (below_of s) (sym (at_is_through s a eastern c (passing f) e t.0 o))

    -- the top edge at a node and the bottom edge at the next node up are neighbours
    next_at : (p q : Node) (e f : ℕ) → NextNode s here p q → TopAt p e → BottomAt q f → NextInColumn (drawing_of s) c e f
    next_at p q e f n (t, o) (b, r) =
        next_meeting (drawing_of s) c height (column_rises s a eastern c) e f t b ((lower_by_edges s a here p q e f o r).0 n.1.0) between
      where
        between : (g : ℕ) → Crosses s c g → height e < height g → height g < height f → ⊥
        between g i l m =
            let u = node_at s a eastern c g i in
            n.1.1 u.0 u.1.0 ((lower_by_edges s a here p u.0 e g o u.1).1 l) ((lower_by_edges s a here u.0 q g f u.1 r).1 m)

    -- the top edge at the highest node is the top of the column
    top_at_highest : (p : Node) (e : ℕ) → NoneHigher s here p → TopAt p e → TopOf (drawing_of s) c e
    top_at_highest p e none (t, o) = top_meeting (drawing_of s) c height (column_rises s a eastern c) e t none_over
      where
        none_over : (g : ℕ) → Crosses s c g → height e < height g → ⊥
        none_over g i l = let u = node_at s a eastern c g i in none u.0 u.1.0 ((lower_by_edges s a here p u.0 e g o u.1).1 l)

    -- the bottom edge at the lowest node is the bottom of the column
    bottom_at_lowest : (p : Node) (e : ℕ) → NoneLower s here p → BottomAt p e → BottomOf (drawing_of s) c e
    bottom_at_lowest p e none (b, o) = bottom_meeting (drawing_of s) c height (column_rises s a eastern c) e b none_under
      where
        none_under : (g : ℕ) → Crosses s c g → height g < height e → ⊥
        none_under g i l = let u = node_at s a eastern c g i in none u.0 u.1.0 ((lower_by_edges s a here u.0 p g e u.1 o).1 l)

    names_agree_beside : west_margin s ≤ c → c < east_margin s → (z w : ℕ) (p q : Node) → NextNode s here p q → ZoneOver s p z → ZoneUnder s q w → z ≡ w
    names_agree_beside l k z w p q n over under =
        let e = has_top_at l k p n.0.0 in
        let f = has_bottom_at l k q n.0.1 in
        zone_over_one here p z (above_of s e.0) n.0.0 over (above_top p e.0 e.1)
        ∙ column_names_agree (drawing_of s) kept c e.0 f.0 (next_at p q e.0 f.0 n e.1 f.1)
        ∙ zone_under_one here q (below_of s f.0) w n.0.1 (below_bottom q f.0 f.1) under

  -- ---- on a transect

  -- a zone is over each node
  pub zone_over_some : (x : ℕ) (p : Node) → OnTransect s x p → (z : ℕ) × ZoneOver s p z
  zone_over_some x p o =
      by_column s a (λ x. OnTransect s x p → (z : ℕ) × ZoneOver s p z)
      (λ eastern c w k o. let e = has_top_at eastern c w k p o in (above_of s e.0, above_top eastern c p e.0 e.1)) x p o o

  -- and a zone is under it
  pub zone_under_some : (x : ℕ) (p : Node) → OnTransect s x p → (z : ℕ) × ZoneUnder s p z
  zone_under_some x p o =
      by_column s a (λ x. OnTransect s x p → (z : ℕ) × ZoneUnder s p z)
      (λ eastern c w k o. let e = has_bottom_at eastern c w k p o in (below_of s e.0, below_bottom eastern c p e.0 e.1)) x p o o

  -- the transect theorem: the zone over a node is the zone under the next node up
  pub transect_names_agree : (x z w : ℕ) (p q : Node) → NextNode s x p q → ZoneOver s p z → ZoneUnder s q w → z ≡ w
  transect_names_agree x z w p q n =
      by_column s a (λ x. NextNode s x p q → ZoneOver s p z → ZoneUnder s q w → z ≡ w) (λ eastern c l k. names_agree_beside eastern c l k z w p q) x p n.0.0 n

  -- the zone over the highest node of a transect is above the top edge of a column
  pub highest_node_top : (x : ℕ) (p : Node) → OnTransect s x p → NoneHigher s x p → (c : ℕ) × (e : ℕ) × TopOf (drawing_of s) c e × ZoneOver s p (above_of s e)
  highest_node_top x p o =
      by_column s a (λ x. OnTransect s x p → NoneHigher s x p → (c : ℕ) × (e : ℕ) × TopOf (drawing_of s) c e × ZoneOver s p (above_of s e))
      (λ eastern c w k o none. let e = has_top_at eastern c w k p o in (c, e.0, top_at_highest eastern c p e.0 none e.1, above_top eastern c p e.0 e.1)) x p o o

  -- the zone under the lowest node of a transect is below the bottom edge of a column
  pub lowest_node_bottom : (x : ℕ) (p : Node) → OnTransect s x p → NoneLower s x p → (c : ℕ) × (e : ℕ) × BottomOf (drawing_of s) c e × ZoneUnder s p (below_of s e)
  lowest_node_bottom x p o =
      by_column s a (λ x. OnTransect s x p → NoneLower s x p → (c : ℕ) × (e : ℕ) × BottomOf (drawing_of s) c e × ZoneUnder s p (below_of s e))
      (λ eastern c w k o none. let e = has_bottom_at eastern c w k p o in (c, e.0, bottom_at_lowest eastern c p e.0 none e.1, below_bottom eastern c p e.0 e.1)) x p o o
