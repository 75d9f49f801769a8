-- The plain reading of a point by the nodes of its transect: the zone read from beneath is the zone over the highest node under the point, and where none is under it the first zone.
use mathlib.Core.Path.{◌≡◌, ◌∙◌}
use mathlib.Core.Bool.{Bool}
use mathlib.Core.Logic.{inl, inr}
use Prim.Native.Nat.{ℕ, ◌*◌, ◌<◌, ◌≤◌}
use native.Mathlib.Omega.{arith}
use Rattle.subdivision.specs.Sheet.{Sheet, west_margin, east_margin, above_of}
use Rattle.subdivision.specs.Accepted.{Accepted}
use Rattle.subdivision.specs.Reading.{first_zone, zone_beneath}
use Rattle.subdivision.specs.Placed.{OnSheet}
use Rattle.theory.proofs.ColumnFans.{fan_side}
use Rattle.theory.proofs.ColumnReadings.{ReadUnder}
use Rattle.theory.proofs.Columns.{HighestUnder}
use Rattle.theory.proofs.Drawn.{Drawn, accepted_drawn, drawing_of}
use Rattle.theory.proofs.DrawnRules.{column_rises}
use Rattle.theory.proofs.Nodes.{node_height, lower_node_less, edge_at, node_at}
use Rattle.theory.proofs.Readings.{from_beneath_lem, plain_view}
use Rattle.theory.proofs.Scale.{scaled, level}
use Rattle.theory.proofs.SideViews.{by_view}
use Rattle.theory.proofs.Sights.{sight_read}
use Rattle.theory.proofs.TransectNames.{TopAt, above_top, zone_over_one}
use Rattle.theory.proofs.Transects.{Node, OnTransect, LowerNode, ZoneOver}

module _ (s : Sheet) where
  -- node p of the transect at x is the highest of those under a level
  abbrev pub HighestNodeUnder : ℕ → ℕ → Node → Type 0
  HighestNodeUnder x t p =
      (OnTransect s x p × (node_height s x p < t)) × ((q : Node) → OnTransect s x q → node_height s x q < t → LowerNode s x p q → ⊥)

  -- no node of the transect at x is under a level
  abbrev pub NoNodeUnder : ℕ → ℕ → Type 0
  NoNodeUnder x t = (q : Node) → OnTransect s x q → node_height s x q < t → ⊥

  -- under a level at the abscissa x, column c reads no zone but z
  abbrev ReadsAs : ℕ → ℕ → ℕ → ℕ → Type 0
  ReadsAs t z c x = (r : ℕ) → ReadUnder (drawing_of s) c (scaled s (2 * x)) t (first_zone s) r → r ≡ z

module _ (s : Sheet) (a : Drawn s) where
  -- a column between the margins, and the transect beside it where its eastern fans are, or where its western ones are
  module _ (eastern : Bool) (c : ℕ) (w : west_margin s ≤ c) (k : c < east_margin s) where
    abbrev here : ℕ
    here = fan_side eastern c

    -- the highest edge under a level is the top edge at the highest node under it
    highest_at_node : (t : ℕ) (p : Node) (e : ℕ) → HighestNodeUnder s here t p → HighestUnder (drawing_of s) c (scaled s (2 * here)) t e → TopAt s a eastern c p e
    highest_at_node t p e ((o, l), none) ((i, m), top) = ((i, λ g j q. top g j (rw q m)), (o, omega (arith, at_least, not_over)))
      where
        at_least : node_height s here p ≤ scaled s (2 * here) e
        at_least =
            let f = edge_at s a eastern c w k p o in
            rw (← f.2.1) (column_rises s a eastern c f.0 e f.1 i (top f.0 f.1 (rw f.2.1 l)))

        not_over : ¬ (node_height s here p < scaled s (2 * here) e)
        not_over h =
            let q = node_at s a eastern c e i in
            none q.0 q.1.0 (rw (← q.1.1) m) ((lower_node_less s a here p q.0 o q.1.0).1 (rw (← q.1.1) h))

    -- the zone read under a level is the zone over the highest node under it
    over_node_read : (t z : ℕ) (p : Node) → ZoneOver s p z → HighestNodeUnder s here t p → ReadsAs s t z c here
    over_node_read t z p over n r (inl (e, u, i)) =
        i ∙ zone_over_one s a here p (above_of s e) z n.0.0 (above_top s a eastern c p e (highest_at_node t p e n u)) over
    over_node_read t z p over n r (inr (none, i)) =
        let f = edge_at s a eastern c w k p n.0.0 in
        absurd (none f.0 f.1 (rw f.2.1 n.0.1))

    -- where no node is under a level, the zone read there is the first
    under_nodes_read : (t : ℕ) → NoNodeUnder s here t → ReadsAs s t (first_zone s) c here
    under_nodes_read t none r (inl (e, u, i)) =
        let q = node_at s a eastern c e u.0.0 in
        absurd (none q.0 q.1.0 (rw (← q.1.1) u.0.1))
    under_nodes_read t none r (inr (n, i)) = i

module _ (s : Sheet) (a : Accepted s) where
  -- where every column reads zone z at its abscissas of some kind, z is read from beneath at every abscissa of the kind
  by_column_read : (x y z : ℕ) (Kind : ℕ → Type 0) → OnSheet s x y
      → ((eastern : Bool) (c : ℕ) → west_margin s ≤ c → c < east_margin s → Kind (fan_side eastern c) → ReadsAs s (level s y) z c (fan_side eastern c))
      → Kind x → zone_beneath s x y ≡ z
  unfolding zone_beneath
  by_column_read x y z Kind o f n =
      let v = plain_view s a x y o in
      by_view s (λ c b. Kind b → ReadsAs s (level s y) z c b) f v n (zone_beneath s x y) (sight_read (from_beneath_lem s a v y) (above_of s) (first_zone s))

  -- the zone read from beneath is the zone over the highest node under the point
  pub zone_over_node_read : (x y : ℕ) (p : Node) (z : ℕ) → OnSheet s x y → HighestNodeUnder s x (level s y) p → ZoneOver s p z → zone_beneath s x y ≡ z
  zone_over_node_read x y p z o n over =
      by_column_read x y z (λ b. HighestNodeUnder s b (level s y) p) o
      (λ eastern c w k. over_node_read s (accepted_drawn s a) eastern c w k (level s y) z p over) n

  -- where no node is under the point, the zone read from beneath is the first
  pub no_node_under_read : (x y : ℕ) → OnSheet s x y → NoNodeUnder s x (level s y) → zone_beneath s x y ≡ first_zone s
  no_node_under_read x y o =
      by_column_read x y (first_zone s) (λ b. NoNodeUnder s b (level s y)) o
      (λ eastern c w k. under_nodes_read s (accepted_drawn s a) eastern c w k (level s y))
