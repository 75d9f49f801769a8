-- The edges of a column that meet at one of its abscissas: they have a top and a bottom one, and between the top of one meeting and the bottom of the next there is no edge.
use mathlib.Core.Path.{◌≡◌}
use Prim.Native.Nat.{ℕ, suc, ◌<◌}
use native.Mathlib.Nat.{lt-suc_self, lt_of_not-le}
use native.Mathlib.Omega.{arith, by_contra}
use Rattle.theory.proofs.ColumnNeighbours.{highest_under_lem, lowest_over, lower_on_half}
use Rattle.theory.proofs.Columns.{Drawing, InColumn, Rises, NextInColumn, TopThere, BottomThere, TopOf, BottomOf}

-- heights h that rise, weakly, with those on the half line of column c
module _ (d : Drawing) (c : ℕ) (h : ℕ → ℕ) (rises : Rises d c h) where
  -- of the edges that meet where edge f is, one is the top
  pub has_top_there : (f : ℕ) → InColumn d c f → (e : ℕ) × TopThere d c h e × (h e ≡ h f)
  has_top_there f i =
      let t = highest_under_lem d c h (suc (h f)) f i (lt-suc_self (h f)) in
      (t.0, (t.1.0.0, λ g j q. t.1.1 g j (omega (arith, q, t.1.0.1))), omega (arith, t.1.0.1, rises f t.0 i t.1.0.0 (t.1.1 f i (lt-suc_self (h f)))))

  -- and one is the bottom
  pub has_bottom_there : (f : ℕ) → InColumn d c f → (e : ℕ) × BottomThere d c h e × (h e ≡ h f)
  has_bottom_there f i =
      let t = lowest_over d c (λ g. suc (h g)) (h f) f i (lt-suc_self (h f)) in
      (t.0, (t.1.0.0, λ g j q. t.1.1 g j (omega (arith, q, t.1.0.1))), omega (arith, t.1.0.1, rises t.0 f t.1.0.0 i (t.1.1 f i (lt-suc_self (h f)))))

  -- an edge over the top of a meeting is over the meeting
  over_top : (e g : ℕ) → TopThere d c h e → InColumn d c g → d.half c e < d.half c g → h e < h g
  over_top e g t i l = lt_of_not-le (λ m. omega (arith, t.1 g i (omega (arith, m, rises e g t.0 i (omega arith)))))

  -- an edge under the bottom of a meeting is under the meeting
  under_bottom : (f g : ℕ) → BottomThere d c h f → InColumn d c g → d.half c g < d.half c f → h g < h f
  under_bottom f g b i l = lt_of_not-le (λ m. omega (arith, b.1 g i (omega (arith, m, rises g f i b.0 (omega arith)))))

  -- the top of a meeting and the bottom of the next one over it are neighbours
  pub next_meeting : (e f : ℕ) → TopThere d c h e → BottomThere d c h f → h e < h f
      → ((g : ℕ) → InColumn d c g → h e < h g → h g < h f → ⊥) → NextInColumn d c e f
  next_meeting e f t b l none =
      ((t.0, b.0), (lower_on_half d c h rises e f t.0 b.0 l, λ g i m n. none g i (over_top e g t i m) (under_bottom f g b i n)))

  -- the top of a meeting with none over it is the top of the column
  pub top_meeting : (e : ℕ) → TopThere d c h e → ((g : ℕ) → InColumn d c g → h e < h g → ⊥) → TopOf d c e
  top_meeting e t none = (t.0, λ g i. by_contra (d.half c g) (d.half c e) (λ l. none g i (over_top e g t i l)))

  -- the bottom of a meeting with none under it is the bottom of the column
  pub bottom_meeting : (f : ℕ) → BottomThere d c h f → ((g : ℕ) → InColumn d c g → h g < h f → ⊥) → BottomOf d c f
  bottom_meeting f b none = (b.0, λ g i. by_contra (d.half c f) (d.half c g) (λ l. none g i (under_bottom f g b i l)))
