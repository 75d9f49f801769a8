-- Up a column: the zones that its two ends name, places that rise from edge to edge, and the one edge that separates the places below a number from the others.
use mathlib.Core.Path.{◌≡◌, ap, ◌∙◌}
use mathlib.Core.Logic.{◌⊎◌, inl, inr}
use Prim.Native.Nat.{ℕ, zero, suc, ◌<◌, ◌≤◌}
use native.Mathlib.Decide.{dec_le}
use native.Mathlib.Nat.{not-suc-le-zero, lt-suc_self, le_refl}
use native.Mathlib.Omega.{arith}
use Rattle.theory.proofs.ColumnNames.{column_names_agree, bottom_name_one}
use Rattle.theory.proofs.ColumnNeighbours.{has_top, lowest_over, next_down, bottom_or_next}
use Rattle.theory.proofs.Columns.{Drawing, InColumn, NextInColumn, LowestOver, TopOf, BottomOf, Kept}
use Rattle.theory.proofs.Flip.{flipped, flip_top, flip_kept}

module _ (d : Drawing) (k : Kept d) where
  -- a zone that is below some edge and above none is below the bottom edge of every column
  pub below_only_is_bottom : (z : ℕ) → ((e : ℕ) → e < d.count → d.above e ≡ z → ⊥) → (e : ℕ) → e < d.count → d.below e ≡ z
      → (c f : ℕ) → BottomOf d c f → d.below f ≡ z
  below_only_is_bottom z none e b same c f bottom =
      go (bottom_or_next d (d.from e) e (b, (le_refl (d.from e), (k.inside e b).0.1)))
    where
      go : BottomOf d (d.from e) e ⊎ ((g : ℕ) × NextInColumn d (d.from e) g e) → d.below f ≡ z
      go (inl i) = bottom_name_one d k c f (d.from e) e bottom i ∙ same
      go (inr (g, next)) = absurd (none g next.0.0.0 (column_names_agree d k (d.from e) g e next ∙ same))

  module _ (place : ℕ → ℕ) (rising : (e : ℕ) → e < d.count → place (d.below e) < place (d.above e)) where
    rise_within : (fuel x e f : ℕ) → d.half x f < fuel → InColumn d x e → InColumn d x f → d.half x e < d.half x f
        → place (d.above e) ≤ place (d.below f)
    rise_within zero x e f b i j l = absurd (not-suc-le-zero b)
    rise_within (suc fuel) x e f b i j l = go (next_down d x e f i j l) (λ g. rise_within fuel x e g)
      where
        go : (g : ℕ) × NextInColumn d x g f × (d.half x e ≤ d.half x g)
            → ((g : ℕ) → d.half x g < fuel → InColumn d x e → InColumn d x g → d.half x e < d.half x g → place (d.above e) ≤ place (d.below g))
            → place (d.above e) ≤ place (d.below f)
        go (g, next, over) rest = same_or_over (dec_le (d.half x g) (d.half x e))
          where
            named : place (d.above g) ≡ place (d.below f)
            named = ap place (column_names_agree d k x g f next)

            same_or_over : Dec (d.half x g ≤ d.half x e) → place (d.above e) ≤ place (d.below f)
            same_or_over (yes m) =
                let one : e ≡ g = k.apart x e g i next.0.0 (omega arith) in
                omega (arith, named, ap (λ y. place (d.above y)) one)
            same_or_over (no m) =
                omega (arith, named, rising g next.0.0.0, rest g (omega (arith, next.1.0)) i next.0.0 (omega arith))

    -- up a column places rise, from above an edge to below a higher one weakly
    pub places_rise : (x e f : ℕ) → InColumn d x e → InColumn d x f → d.half x e < d.half x f → place (d.above e) ≤ place (d.below f)
    places_rise x e f = rise_within (suc (d.half x f)) x e f (lt-suc_self (d.half x f))

    -- a column has at most one edge that separates the places below n from the others
    pub separator_one : (x n e f : ℕ) → InColumn d x e → InColumn d x f
        → (place (d.below e) < n) × (n ≤ place (d.above e)) → (place (d.below f) < n) × (n ≤ place (d.above f)) → e ≡ f
    separator_one x n e f i j p q = k.apart x e f i j (omega (arith, not_under e f i j p q, not_under f e j i q p))
      where
        not_under : (e f : ℕ) → InColumn d x e → InColumn d x f → (place (d.below e) < n) × (n ≤ place (d.above e))
            → (place (d.below f) < n) × (n ≤ place (d.above f)) → ¬ (d.half x e < d.half x f)
        not_under e f i j p q l = omega (arith, p.1, q.0, places_rise x e f i j l)

  -- a column has an edge that separates the places below n from the others, where that below its bottom edge is below n and that above its top edge is not
  pub separator_in : (place : ℕ → ℕ) (x n : ℕ) → ((f : ℕ) → BottomOf d x f → place (d.below f) < n) → ((f : ℕ) → TopOf d x f → n ≤ place (d.above f))
      → (e : ℕ) → InColumn d x e → (f : ℕ) × InColumn d x f × ((place (d.below f) < n) × (n ≤ place (d.above f)))
  separator_in place x n under over e i =
      let t = has_top d x e i in
      go (lowest_over d x (λ g. suc (place (d.above g))) n t.0 t.1.0 (omega (arith, over t.0 t.1)))
    where
      go : (f : ℕ) × LowestOver d x (λ g. suc (place (d.above g))) n f → (f : ℕ) × InColumn d x f × ((place (d.below f) < n) × (n ≤ place (d.above f)))
      go (f, ((j, high), least)) = (f, j, (low (bottom_or_next d x f j), omega arith))
        where
          low : BottomOf d x f ⊎ ((g : ℕ) × NextInColumn d x g f) → place (d.below f) < n
          low (inl bottom) = under f bottom
          low (inr (g, next)) = omega (arith, ap place (column_names_agree d k x g f next), not_high)
            where
              not_high : ¬ (n < suc (place (d.above g)))
              not_high l = omega (arith, least g next.0.0 l, next.1.0)

module _ (d : Drawing) (k : Kept d) where
  -- a zone that is above some edge and below none is above the top edge of every column
  pub above_only_is_top : (z : ℕ) → ((e : ℕ) → e < d.count → d.below e ≡ z → ⊥) → (e : ℕ) → e < d.count → d.above e ≡ z
      → (c f : ℕ) → TopOf d c f → d.above f ≡ z
  above_only_is_top z none e b same c f top = below_only_is_bottom (flipped d) (flip_kept d k) z none e b same c f (flip_top d c f top)
