-- The edges of one column of a drawing: a top and a bottom edge, the highest under a level and the lowest over it, and neighbours.
use mathlib.Core.Path.{◌≡◌}
use mathlib.Core.Logic.{◌⊎◌, inl, inr}
use Prim.Native.Nat.{ℕ, suc, ◌<◌, ◌≤◌}
use native.Mathlib.Decide.{dec_le}
use native.Mathlib.Nat.{lt_of_not-le, lt-suc_self}
use native.Mathlib.Omega.{arith, by_contra}
use Rattle.subdivision.specs.Formula.{Formula, is_less, is_at_most, both}
use Rattle.theory.proofs.Columns.{Drawing, InColumn, Rises, NextInColumn, TopThere, HighestUnder, LowestOver, TopOf, BottomOf}
use Rattle.theory.proofs.Tops.{has_highest, has_lowest}

module _ (d : Drawing) where
  -- edge e crosses column x, as a formula
  abbrev in_column : ℕ → ℕ → Formula
  in_column x e = both (is_less e d.count) (both (is_at_most (d.from e) x) (is_less x (d.to e)))

  -- a column with an edge under a level has a highest one
  pub highest_under_lem : (c : ℕ) (h : ℕ → ℕ) (level e : ℕ) → InColumn d c e → h e < level → (f : ℕ) × HighestUnder d c h level f
  highest_under_lem c h level e i l =
      let t = has_highest (λ g. both (in_column c g) (is_less (h g) level)) (d.half c) d.count e i.0 (i, l) in
      (t.0, (t.1.1.0, λ g j m. t.1.1.1 g j.0 (j, m)))

  -- a column with an edge over a level has a lowest one
  pub lowest_over : (c : ℕ) (h : ℕ → ℕ) (level e : ℕ) → InColumn d c e → level < h e → (f : ℕ) × LowestOver d c h level f
  lowest_over c h level e i l =
      let t = has_lowest (λ g. both (in_column c g) (is_less level (h g))) (d.half c) d.count e i.0 (i, l) in
      (t.0, (t.2.0, λ g j m. t.2.1 g j.0 (j, m)))

  -- a column that has an edge has a top edge
  pub has_top : (c e : ℕ) → InColumn d c e → (t : ℕ) × TopOf d c t
  has_top c e i =
      let t = highest_under_lem c (λ g. 0) 1 e i (lt-suc_self 0) in
      (t.0, (t.1.0.0, λ g j. t.1.1 g j (lt-suc_self 0)))

  -- and a bottom edge
  pub has_bottom : (c e : ℕ) → InColumn d c e → (t : ℕ) × BottomOf d c t
  has_bottom c e i =
      let t = lowest_over c (λ g. 1) 0 e i (lt-suc_self 0) in
      (t.0, (t.1.0.0, λ g j. t.1.1 g j (lt-suc_self 0)))

  -- the highest under a level is the top of those that meet where it is
  pub highest_top_there : (c : ℕ) (h : ℕ → ℕ) (level e : ℕ) → HighestUnder d c h level e → TopThere d c h e
  highest_top_there c h level e t = (t.0.0, λ g i q. t.1 g i (omega (arith, q, t.0.1)))

  -- heights h that rise, weakly, with those on the half line of column c
  module _ (c : ℕ) (h : ℕ → ℕ) (rises : Rises d c h) where
    -- what is lower by h is lower on the half line
    pub lower_on_half : (e f : ℕ) → InColumn d c e → InColumn d c f → h e < h f → d.half c e < d.half c f
    lower_on_half e f i j l = lt_of_not-le (λ m. omega (arith, rises f e j i m))

    -- the highest edge under one level and the lowest over another are neighbours, where each edge is under the one or over the other
    pub next_between : (high low e f : ℕ) → HighestUnder d c h high e → LowestOver d c h low f → h e < h f
        → ((g : ℕ) → InColumn d c g → high ≤ h g → h g ≤ low → ⊥) → NextInColumn d c e f
    next_between high low e f a b l none =
        ((a.0.0, b.0.0), (lower_on_half e f a.0.0 b.0.0 l, λ g i m n. none g i (by_contra high (h g) (λ u. omega (arith, a.1 g i u))) (by_contra (h g) low (λ o. omega (arith, b.1 g i o)))))

  -- where no edge of a column passes a level, the highest edge under it and the lowest over it are neighbours
  pub next_across : (c : ℕ) (h : ℕ → ℕ) (level e f : ℕ) → Rises d c h
      → HighestUnder d c h level e → LowestOver d c h level f → ((g : ℕ) → InColumn d c g → h g ≡ level → ⊥) → NextInColumn d c e f
  next_across c h level e f rises a b none =
      next_between c h rises level level e f a b (omega (arith, a.0.1, b.0.1)) (λ g i l m. none g i (omega arith))

  -- the top edge is the highest under a level over all heights
  pub top_highest : (c : ℕ) (h : ℕ → ℕ) (e : ℕ) → h e ≤ d.cap → TopOf d c e → HighestUnder d c h (suc d.cap) e
  top_highest c h e b t = ((t.0, omega arith), λ g i l. t.1 g i)

  -- an edge f of a column with an edge e under it has a next one down, and that is not under e
  pub next_down : (x e f : ℕ) → InColumn d x e → InColumn d x f → d.half x e < d.half x f
      → (g : ℕ) × NextInColumn d x g f × (d.half x e ≤ d.half x g)
  next_down x e f i j l =
      let g = highest_under_lem x (d.half x) (d.half x f) e i l in
      (g.0, ((g.1.0.0, j), (g.1.0.1, λ h c u v. omega (arith, g.1.1 h c v))), g.1.1 e i l)

  -- an edge of a column is its bottom edge or has a next one down
  pub bottom_or_next : (x f : ℕ) → InColumn d x f → BottomOf d x f ⊎ ((g : ℕ) × NextInColumn d x g f)
  bottom_or_next x f j = go (has_bottom x f j)
    where
      go : (b : ℕ) × BottomOf d x b → BottomOf d x f ⊎ ((g : ℕ) × NextInColumn d x g f)
      go (b, (i, least)) = under (dec_le (d.half x f) (d.half x b))
        where
          under : Dec (d.half x f ≤ d.half x b) → BottomOf d x f ⊎ ((g : ℕ) × NextInColumn d x g f)
          under (yes m) = inl (j, λ g c. omega (arith, least g c))
          under (no m) = let g = next_down x b f i j (omega (arith, m)) in inr (g.0, g.1)

-- an edge of a column is at most as high as the lower of two neighbours, or at least as high as the upper
pub beside_neighbours : (d : Drawing) (x e f g : ℕ) → NextInColumn d x e f → InColumn d x g → (d.half x g ≤ d.half x e) ⊎ (d.half x f ≤ d.half x g)
beside_neighbours d x e f g n c = go (dec_le (d.half x g) (d.half x e)) (dec_le (d.half x f) (d.half x g))
  where
    go : Dec (d.half x g ≤ d.half x e) → Dec (d.half x f ≤ d.half x g) → (d.half x g ≤ d.half x e) ⊎ (d.half x f ≤ d.half x g)
    go (yes l) m = inl l
    go (no l) (yes m) = inr m
    go (no l) (no m) = absurd (n.1.1 g c (omega arith) (omega arith))
