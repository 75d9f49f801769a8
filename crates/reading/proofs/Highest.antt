-- The edge that the scan leaves is the edge beneath the point that is highest on the reading line.
use mathlib.Core.Path.{◌≡◌, refl, sym, ◌∙◌}
use mathlib.Core.Bool.{Bool, true, false}
use mathlib.Core.Logic.{◌⊎◌, inl, inr, ⊎_elim, ◌↔◌}
use Prim.Native.Nat.{ℕ, zero, suc, ◌*◌, ◌<◌, ◌≤◌}
use native.Mathlib.Nat.{not-suc-le-zero, le_refl}
use native.Mathlib.Omega.{arith, by_contra}
use Rattle.subdivision.specs.Formula.{Formula, holds, Means}
use Rattle.subdivision.specs.Lowest.{lowest}
use Rattle.subdivision.specs.Sheet.{Sheet, east_margin, edge_count, segment}
use Rattle.subdivision.specs.Lines.{covers, overlap_west, overlap_east}
use Rattle.subdivision.specs.Neighbours.{is_highest}
use Rattle.subdivision.specs.Accepted.{Lower, Accepted}
use Rattle.subdivision.specs.Reading.{reading_line, beneath}
use Rattle.subdivision.specs.Placed.{OnSheet}
use Rattle.theory.proofs.Decide.{below_suc, means, held, denies, fails}
use Rattle.theory.proofs.Lowest.{is_lowest_lem, lowest_none}
use Rattle.theory.proofs.NoCrossing.{lower_between_lem}
use Rattle.theory.proofs.Readings.{highest_one}
use Rattle.theory.proofs.Crossings.{Crosses}
use Rattle.theory.proofs.Scale.{scaled}
use Rattle.theory.proofs.Scaling.{one_scale}
use Rattle.theory.proofs.SideViews.{SideView, view_plain}
use Rattle.theory.proofs.Tops.{Highest, highest_new, highest_kept}
use Rattle.scans.specs.Scans.{lower_between, takes_over, highest_to, edge_beneath}

module _ (s : Sheet) (x y : ℕ) where
  -- edge k takes the place of edge r in the scan
  abbrev takes : ℕ → ℕ → Formula
  takes r k = takes_over s.vertices s.edges x y (east_margin s) (edge_count s) r k

  -- the edge that the scan of the first k edges leaves
  abbrev left : ℕ → ℕ
  left k = highest_to s.vertices s.edges x y (east_margin s) (edge_count s) k

  module _ (high : ℕ → ℕ) where
    -- of the first k edges none is beneath the point and r stands for none, or r is the highest of those beneath it
    abbrev Found : ℕ → ℕ → Type 0
    Found k r =
        ((r ≡ edge_count s) × ((g : ℕ) → g < k → Means (beneath s x y g) → ⊥)) ⊎ Highest (beneath s x y) high k r

    -- the scan's test of two edges beneath the point is the order of their heights
    abbrev InOrder : Type 0
    InOrder =
        (e f : ℕ) → e < edge_count s → f < edge_count s → Means (beneath s x y e) → Means (beneath s x y f)
        → Means (lower_between (segment s e) (segment s f)) ↔ (high e < high f)

    module _ (in_order : InOrder) where
      -- one edge more
      found_next : (k r : ℕ) → k < edge_count s → Found k r → (b : Bool) → holds (takes r k) ≡ b → Found (suc k) (elim b [ true ↦ k | false ↦ r ])
      found_next k r h found true t =
          inr (highest_new (beneath s x y) high k taken.0 (none_higher found))
        where
          taken : Means (takes r k)
          taken = means (takes r k) t

          higher : Highest (beneath s x y) high k r → (r ≡ edge_count s) ⊎ Means (lower_between (segment s r) (segment s k)) → high r < high k
          higher f (inl e) = absurd (omega (arith, f.0))
          higher f (inr l) = (in_order r k (omega (arith, f.0)) h f.1.0 taken.0).0 l

          none_higher : Found k r → (g : ℕ) → g < k → Means (beneath s x y g) → high g ≤ high k
          none_higher (inl f) g l m = absurd (f.1 g l m)
          none_higher (inr f) g l m = omega (arith, f.1.1 g l m, higher f taken.1)
      found_next k r h (inl f) false t =
          inl (f.0, λ g l m. ⊎_elim (λ (i : g ≡ k). denies (takes r k) t (rw i at m, inl f.0)) (λ b. f.1 g b m) (below_suc l))
      found_next k r h (inr f) false t =
          inr (highest_kept (beneath s x y) high k r f (λ m. by_contra (high k) (high r) (not_higher m)))
        where
          not_higher : Means (beneath s x y k) → high r < high k → ⊥
          not_higher m l = denies (takes r k) t (m, inr ((in_order r k (omega (arith, f.0)) h f.1.0 m).1 l))

      scan_finds : (k : ℕ) → k ≤ edge_count s → Found k (left k)
      scan_finds zero h = inl (refl, λ g l. absurd (not-suc-le-zero l))
      scan_finds (suc k) h = found_next k (left k) h (scan_finds k (omega arith)) (holds (takes (left k) k)) refl

module _ (s : Sheet) (a : Accepted s) (x y : ℕ) (o : OnSheet s x y) where
  -- the height of an edge on the reading line
  abbrev on_line : ℕ → ℕ
  on_line e = scaled s (reading_line s x) e

  -- edge e is the highest beneath the point
  abbrev highest : ℕ → Formula
  highest e = is_highest s (reading_line s x) (beneath s x y) e

  lower_on_line : (e f : ℕ) → e < edge_count s → f < edge_count s → Lower (reading_line s x) (segment s e) (segment s f) ↔ (on_line e < on_line f)
  lower_on_line = (one_scale s a.two).lower_less (reading_line s x)

  -- two edges beneath the point cross the column of the reading line, where the ends of their overlap decide their order
  order_on_line : InOrder s x y on_line
  order_on_line e f h i m n = (there, back)
    where
      view : SideView s x (λ g. covers (east_margin s) (segment s g) x) (reading_line s x)
      view = view_plain s a x o.0.0 o.0.1

      p : Crosses s view.column e
      p = (h, (view.crosses e h).0 m.0)

      q : Crosses s view.column f
      q = (i, (view.crosses f i).0 n.0)

      overlap : overlap_west (segment s e) (segment s f) < overlap_east (segment s e) (segment s f)
      overlap = omega (arith, p.1.0, p.1.1, q.1.0, q.1.1)

      ends : Lower (reading_line s x) (segment s e) (segment s f)
          ↔ (Lower (2 * overlap_west (segment s e) (segment s f)) (segment s e) (segment s f) ⊎ Lower (2 * overlap_east (segment s e) (segment s f)) (segment s e) (segment s f))
      ends = rw view.half_line (lower_between_lem s a.four view.column e f p q)

      there : Means (lower_between (segment s e) (segment s f)) → on_line e < on_line f
      there l = (lower_on_line e f h i).0 (ends.1 (⊎_elim (λ w. inl w.1) (λ w. inr w.1) l))

      back : on_line e < on_line f → Means (lower_between (segment s e) (segment s f))
      back l = ⊎_elim (λ w. inl (overlap, w)) (λ w. inr (overlap, w)) (ends.0 ((lower_on_line e f h i).1 l))

  -- what the scan finds is the lowest number of a highest edge, since there is one at most
  found_lowest : (r : ℕ) → Found s x y on_line (edge_count s) r → r ≡ lowest (λ e. holds (highest e)) (edge_count s)
  found_lowest r (inl f) =
      f.0 ∙ sym (lowest_none (λ e. holds (highest e)) (edge_count s) (λ e h. fails (highest e) (λ m. f.1 e h m.0)))
  found_lowest r (inr f) =
      sym (is_lowest_lem (record { within = omega (arith, f.0); before = λ e h. fails (highest e) (only e h); passes = λ h. held (highest r) top }))
    where
      top : Means (highest r)
      top = (f.1.0, λ g l m n. omega (arith, f.1.1 g l m, (lower_on_line r g f.0 l).0 n))

      only : (e : ℕ) → e < r → Means (highest e) → ⊥
      only e h m = omega (arith, highest_one s a x y o e r (omega (arith, f.0)) f.0 m top)

  -- the scan's edge is the highest beneath the point
  pub highest_beneath : edge_beneath s.vertices s.edges x y (east_margin s) ≡ lowest (λ e. holds (is_highest s (reading_line s x) (beneath s x y) e)) (edge_count s)
  unfolding edge_beneath
  highest_beneath =
      found_lowest (left s x y (edge_count s)) (scan_finds s x y on_line order_on_line (edge_count s) (le_refl (edge_count s)))
