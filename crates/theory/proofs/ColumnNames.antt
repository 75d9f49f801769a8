-- The zones that the edges of a drawing name agree up each column, and at the bottom and the top of all columns.
use mathlib.Core.Path.{◌≡◌, sym, ap, ◌∙◌}
use mathlib.Core.Logic.{⊎_elim}
use Prim.Native.Nat.{ℕ, zero, suc, ◌-◌, ◌<◌, ◌≤◌}
use native.Mathlib.Decide.{dec_le}
use native.Mathlib.Nat.{eq-or-lt_of_le, le_of_suc-le-suc}
use native.Mathlib.Omega.{arith, by_contra}
use Rattle.theory.proofs.ColumnNeighbours.{has_top, highest_under_lem, lowest_over, highest_top_there, lower_on_half, next_between, top_highest}
use Rattle.theory.proofs.Columns.{Drawing, InColumn, NextInColumn, HighestUnder, LowestOver, TopOf, BottomOf, Kept}
use Rattle.theory.proofs.Flip.{flipped, flip_kept, flip_bottom, flip_lowest, unflip_across}

-- what holds of a column, and passes from each to the next, holds of every column on from it
from_column : (P : ℕ → Type 0) (c : ℕ) → P c → ((b : ℕ) → c ≤ b → P b → P (suc b)) → (b : ℕ) → c ≤ b → P b
from_column P c p next zero l = let same : c ≡ 0 = omega arith in rw same at p
from_column P c p next (suc b) l =
    ⊎_elim (λ (same : c ≡ suc b). rw same at p) (λ m. let n = le_of_suc-le-suc m in next b n (from_column P c p next b n)) (eq-or-lt_of_le l)

module _ (d : Drawing) (k : Kept d) where
  west_of_column : (c e : ℕ) → InColumn d c e → d.west ≤ c
  west_of_column c e i = omega (arith, i.1.0, (k.inside e i.0).0.0)

  east_of_column : (c e : ℕ) → InColumn d c e → c < d.east
  east_of_column c e i = omega (arith, i.1.1, (k.inside e i.0).1)

  -- ---- cuts at a level

  -- the highest edges under a level on the two sides of an abscissa meet at it
  meet_under : (x level e f : ℕ) → HighestUnder d x (d.whole (suc x)) level e → HighestUnder d (suc x) (d.whole (suc x)) level f
      → d.whole (suc x) e ≡ d.whole (suc x) f
  meet_under x level e f a b = omega (arith, not_above, not_below)
    where
      not_above : d.whole (suc x) e ≤ d.whole (suc x) f
      not_above =
          let g = k.onward x e (east_of_column (suc x) f b.0.0) a.0.0 in
          omega (arith, g.2, k.near (suc x) g.0 f g.1 b.0.0 (b.1 g.0 g.1 (omega (arith, g.2, a.0.1))))

      not_below : d.whole (suc x) f ≤ d.whole (suc x) e
      not_below =
          let g = k.back x f (west_of_column x e a.0.0) b.0.0 in
          omega (arith, g.2, k.far x g.0 e g.1 a.0.0 (a.1 g.0 g.1 (omega (arith, g.2, b.0.1))))

  -- the highest edges under a level on the two sides of an abscissa have one zone above them
  pub cut_above : (x level e f : ℕ) → HighestUnder d x (d.whole (suc x)) level e → HighestUnder d (suc x) (d.whole (suc x)) level f
      → d.above e ≡ d.above f
  cut_above x level e f a b =
      k.tops x e f (highest_top_there d x (d.whole (suc x)) level e a) (highest_top_there d (suc x) (d.whole (suc x)) level f b) (meet_under x level e f a b)

module _ (d : Drawing) (k : Kept d) where
  flip_before : (x level e : ℕ) → LowestOver d x (d.whole (suc x)) level e
      → HighestUnder (flipped d) x ((flipped d).whole (suc x)) (d.cap - level) e
  flip_before x level e t = flip_lowest d x (d.whole (suc x)) level e (k.capped x e t.0.0).0.1 t

  flip_behind : (x level e : ℕ) → LowestOver d (suc x) (d.whole (suc x)) level e
      → HighestUnder (flipped d) (suc x) ((flipped d).whole (suc x)) (d.cap - level) e
  flip_behind x level e t = flip_lowest d (suc x) (d.whole (suc x)) level e (k.capped (suc x) e t.0.0).0.0 t

  -- the lowest edges over a level on the two sides of an abscissa meet at it
  meet_over : (x level e f : ℕ) → LowestOver d x (d.whole (suc x)) level e → LowestOver d (suc x) (d.whole (suc x)) level f
      → d.whole (suc x) e ≡ d.whole (suc x) f
  meet_over x level e f a b =
      unflip_across d k x e f a.0.0 b.0.0 (meet_under (flipped d) (flip_kept d k) x (d.cap - level) e f (flip_before x level e a) (flip_behind x level f b))

  -- the lowest edges over a level on the two sides of an abscissa have one zone below them
  cut_below : (x level e f : ℕ) → LowestOver d x (d.whole (suc x)) level e → LowestOver d (suc x) (d.whole (suc x)) level f
      → d.below e ≡ d.below f
  cut_below x level e f a b =
      cut_above (flipped d) (flip_kept d k) x (d.cap - level) e f (flip_before x level e a) (flip_behind x level f b)

  -- ---- up a column

  -- neighbours that meet at the abscissa of their column agree by rule 5, so that those apart there are left
  names_where_apart : (x e f : ℕ) → NextInColumn d x e f → (d.whole x e < d.whole x f → d.above e ≡ d.below f) → d.above e ≡ d.below f
  names_where_apart x e f n apart =
      ⊎_elim (k.fork x e f n) apart (eq-or-lt_of_le (k.near x e f n.0.0 n.0.1 (omega (arith, n.1.0))))

  -- of two neighbours that are apart at the abscissa of their column, the lower is the highest under the upper
  lower_highest : (x e f : ℕ) → NextInColumn d x e f → d.whole x e < d.whole x f → HighestUnder d x (d.whole x) (d.whole x f) e
  lower_highest x e f n l =
      ((n.0.0, l), λ g i m. by_contra (d.half x g) (d.half x e) (λ o. n.1.1 g i o (lower_on_half d x (d.whole x) (k.near x) g f i n.0.1 m)))

  -- and the upper is the lowest over the lower
  upper_lowest : (x e f : ℕ) → NextInColumn d x e f → d.whole x e < d.whole x f → LowestOver d x (d.whole x) (d.whole x e) f
  upper_lowest x e f n l =
      ((n.0.1, l), λ g i m. by_contra (d.half x f) (d.half x g) (n.1.1 g i (lower_on_half d x (d.whole x) (k.near x) e g n.0.0 i m)))

  -- neighbours in a column that are apart at its abscissa stand over neighbours of the column before, and have their names
  names_carried : (y e f : ℕ) → d.west ≤ y → ((e f : ℕ) → NextInColumn d y e f → d.above e ≡ d.below f)
      → NextInColumn d (suc y) e f → d.whole (suc y) e < d.whole (suc y) f → d.above e ≡ d.below f
  names_carried y e f w agree n l = go (highest_under_lem d y h (h f) under.0 under.1 (omega (arith, under.2))) (lowest_over d y h (h e) over.0 over.1 (omega (arith, over.2)))
    where
      h : ℕ → ℕ
      h = d.whole (suc y)

      under : (g : ℕ) × InColumn d y g × (h g ≡ h e)
      under = k.back y e w n.0.0

      over : (g : ℕ) × InColumn d y g × (h g ≡ h f)
      over = k.back y f w n.0.1

      go : (p : ℕ) × HighestUnder d y h (h f) p → (q : ℕ) × LowestOver d y h (h e) q → d.above e ≡ d.below f
      go p q = sym (cut_above d k y (h f) p.0 e p.1 lower) ∙ agree p.0 q.0 next ∙ cut_below y (h e) q.0 f q.1 upper
        where
          lower : HighestUnder d (suc y) h (h f) e
          lower = lower_highest (suc y) e f n l

          upper : LowestOver d (suc y) h (h e) f
          upper = upper_lowest (suc y) e f n l

          next : NextInColumn d y p.0 q.0
          next =
              next_between d y h (k.far y) (h f) (h e) p.0 q.0 p.1 q.1
              (omega (arith, l, meet_under d k y (h f) p.0 e p.1 lower, meet_over y (h e) q.0 f q.1 upper))
              (λ g i a b. omega (arith, l))

  -- the zone above an edge of a column is the zone below the next one up
  pub column_names_agree : (x e f : ℕ) → NextInColumn d x e f → d.above e ≡ d.below f
  column_names_agree x e f n =
      from_column (λ c. (e f : ℕ) → NextInColumn d c e f → d.above e ≡ d.below f) d.west
      (λ e f n. names_where_apart d.west e f n (k.margin e f n))
      (λ c w agree e f n. names_where_apart (suc c) e f n (names_carried c e f w agree n))
      x (west_of_column d k x e n.0.0) e f n

  -- ---- along the columns

  -- where there is an edge, every column between the margins has one
  pub column_filled : (x e c : ℕ) → InColumn d x e → d.west ≤ c → c < d.east → (f : ℕ) × InColumn d c f
  column_filled x e c i w l = go (dec_le x c)
    where
      Filled : ℕ → Type 0
      Filled b = (f : ℕ) × InColumn d b f

      eastward : (b : ℕ) → x ≤ b → (b < d.east → Filled b) → suc b < d.east → Filled (suc b)
      eastward b m filled n = let f = filled (omega arith) in let g = k.onward b f.0 n f.1 in (g.0, g.1)

      westward : (b : ℕ) → c ≤ b → (Filled b → Filled c) → Filled (suc b) → Filled c
      westward b m filled f = let g = k.back b f.0 (omega arith) f.1 in filled (g.0, g.1)

      go : Dec (x ≤ c) → Filled c
      go (yes m) = from_column (λ b. b < d.east → Filled b) x (λ n. (e, i)) eastward c m l
      go (no m) = from_column (λ b. Filled b → Filled c) c (λ f. f) westward x (omega arith) (e, i)

  -- the zone above the top edge is the same in a column and in the next
  top_name_next : (c e f : ℕ) → TopOf d c e → TopOf d (suc c) f → d.above e ≡ d.above f
  top_name_next c e f t u =
      cut_above d k c (suc d.cap) e f (top_highest d c (d.whole (suc c)) e (k.capped c e t.0).0.1 t) (top_highest d (suc c) (d.whole (suc c)) f (k.capped (suc c) f u.0).0.0 u)

  top_name_east : (c e b f : ℕ) → c ≤ b → TopOf d c e → TopOf d b f → d.above e ≡ d.above f
  top_name_east c e b f l t u = from_column (λ b. (f : ℕ) → TopOf d b f → d.above e ≡ d.above f) c same next b l f u
    where
      same : (f : ℕ) → TopOf d c f → d.above e ≡ d.above f
      same f u = ap d.above (k.apart c e f t.0 u.0 (omega (arith, t.1 f u.0, u.1 e t.0)))

      next : (b : ℕ) → c ≤ b → ((f : ℕ) → TopOf d b f → d.above e ≡ d.above f) → (f : ℕ) → TopOf d (suc b) f → d.above e ≡ d.above f
      next b m one f u =
          let g = k.back b f (omega (arith, west_of_column d k c e t.0)) u.0 in
          let p = has_top d b g.0 g.1 in
          one p.0 p.1 ∙ top_name_next b p.0 f p.1 u

  -- the zone above the top edge is the same in all columns
  pub top_name_one : (c e b f : ℕ) → TopOf d c e → TopOf d b f → d.above e ≡ d.above f
  top_name_one c e b f t u = go (dec_le c b)
    where
      go : Dec (c ≤ b) → d.above e ≡ d.above f
      go (yes l) = top_name_east c e b f l t u
      go (no l) = sym (top_name_east b f c e (omega arith) u t)

module _ (d : Drawing) (k : Kept d) where
  -- the zone below the bottom edge is the same in all columns
  pub bottom_name_one : (c e b f : ℕ) → BottomOf d c e → BottomOf d b f → d.below e ≡ d.below f
  bottom_name_one c e b f t u = top_name_one (flipped d) (flip_kept d k) c e b f (flip_bottom d c e t) (flip_bottom d b f u)
