-- Zones read in a column, at a level on one of its abscissas: where no edge has the level, from beneath as from overhead, and alike in the two columns beside an abscissa.
use mathlib.Core.Path.{◌≡◌, sym, ◌∙◌}
use mathlib.Core.Logic.{◌⊎◌, inl, inr}
use Prim.Native.Nat.{ℕ, suc, ◌<◌, ◌≤◌}
use native.Mathlib.Omega.{arith}
use Rattle.theory.proofs.ColumnNeighbours.{next_across}
use Rattle.theory.proofs.Columns.{Drawing, InColumn, Rises, HighestUnder, LowestOver, TopOf, BottomOf, Kept}
use Rattle.theory.proofs.ColumnNames.{cut_above, column_names_agree, column_filled}

module _ (d : Drawing) where
  -- zone z is read in column c: it is the found edge's; where no edge of the column is seen it is another
  abbrev pub ReadIn : ℕ → (ℕ → Type 0) → (ℕ → Type 0) → (ℕ → ℕ) → ℕ → ℕ → Type 0
  ReadIn c Seen Found zone_of other z =
      ((e : ℕ) × Found e × (z ≡ zone_of e)) ⊎ (((g : ℕ) → InColumn d c g → Seen g → ⊥) × (z ≡ other))

  -- zone z is above the highest edge of column c whose height h is under a level; with none, it is the first zone
  abbrev pub ReadUnder : ℕ → (ℕ → ℕ) → ℕ → ℕ → ℕ → Type 0
  ReadUnder c h level first z = ReadIn c (λ g. h g < level) (HighestUnder d c h level) d.above first z

  -- zone z is below the lowest edge of column c whose height h is over a level; with none, it is the last zone
  abbrev pub ReadOver : ℕ → (ℕ → ℕ) → ℕ → ℕ → ℕ → Type 0
  ReadOver c h level last z = ReadIn c (λ g. level < h g) (LowestOver d c h level) d.below last z

module _ (d : Drawing) (k : Kept d) where
  -- a column between the margins is empty only where there is no edge
  empty_column : (c : ℕ) → d.west ≤ c → c < d.east → ((g : ℕ) → InColumn d c g → ⊥) → d.count ≡ 0
  empty_column c b l none = omega (arith, no_edge)
    where
      no_edge : ¬ (0 < d.count)
      no_edge h =
          let i = k.inside 0 h in
          let f = column_filled d k (d.from 0) 0 c (h, (omega arith, i.0.1)) b l in
          none f.0 f.1

  -- the two columns beside an abscissa strictly between the margins read the same from beneath
  pub west_is_east : (x level first z w : ℕ) → d.west ≤ x → suc x < d.east
      → ReadUnder d x (d.whole (suc x)) level first z → ReadUnder d (suc x) (d.whole (suc x)) level first w → z ≡ w
  west_is_east x level first z w b l = go
    where
      go : ReadUnder d x (d.whole (suc x)) level first z → ReadUnder d (suc x) (d.whole (suc x)) level first w → z ≡ w
      go (inl e) (inl f) = e.2 ∙ (cut_above d k x level e.0 f.0 e.1 f.1 ∙ sym f.2)
      go (inl e) (inr n) =
          let f = k.onward x e.0 l e.1.0.0 in
          absurd (n.0 f.0 f.1 (rw f.2 e.1.0.1))
      go (inr n) (inl f) =
          let e = k.back x f.0 b f.1.0.0 in
          absurd (n.0 e.0 e.1 (rw e.2 f.1.0.1))
      go (inr n) (inr o) = n.1 ∙ sym o.1

  module _ (first last : ℕ)
      (bottoms : (c e : ℕ) → BottomOf d c e → d.below e ≡ first)
      (tops : (c e : ℕ) → TopOf d c e → d.above e ≡ last)
      (bare : d.count ≡ 0 → first ≡ last)
    where
      -- where no edge of a column has the level, it reads from beneath as from overhead
      pub under_is_over : (c : ℕ) (h : ℕ → ℕ) (level z w : ℕ)
          → Rises d c h
          → d.west ≤ c → c < d.east
          → ((g : ℕ) → InColumn d c g → h g ≡ level → ⊥)
          → ReadUnder d c h level first z → ReadOver d c h level last w → z ≡ w
      under_is_over c h level z w order b l off = go
        where
          under : (g : ℕ) → InColumn d c g → (level < h g → ⊥) → h g < level
          under g i n = omega (arith, off g i, n)

          over : (g : ℕ) → InColumn d c g → (h g < level → ⊥) → level < h g
          over g i n = omega (arith, off g i, n)

          go : ReadUnder d c h level first z → ReadOver d c h level last w → z ≡ w
          go (inl e) (inl f) =
              e.2 ∙ (column_names_agree d k c e.0 f.0 (next_across d c h level e.0 f.0 order e.1 f.1 off) ∙ sym f.2)
          go (inl e) (inr n) =
              e.2 ∙ (tops c e.0 (e.1.0.0, λ g i. e.1.1 g i (under g i (n.0 g i))) ∙ sym n.1)
          go (inr n) (inl f) =
              n.1 ∙ (sym (bottoms c f.0 (f.1.0.0, λ g i. f.1.1 g i (over g i (n.0 g i)))) ∙ sym f.2)
          go (inr n) (inr o) =
              n.1 ∙ (bare (empty_column c b l (λ g i. n.0 g i (under g i (o.0 g i)))) ∙ sym o.1)
