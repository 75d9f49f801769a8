-- Places of numbers in a list, and what one more at its end changes.
use mathlib.Core.Path.{◌≡◌, refl, sym, ap, ◌∙◌}
use mathlib.Core.Bool.{Bool, true, false}
use mathlib.Core.List.{List, [], ◌∷◌, ◌++◌}
use mathlib.Core.Logic.{◌⊎◌, inl, inr, ⊎_elim}
use Prim.Native.Nat.{ℕ, zero, suc, ◌<◌, ◌≤◌, zero-le, suc-le-suc}
use native.Mathlib.Nat.{le_refl, lt_irrefl, not-suc-le-zero, le_of_suc-le-suc, suc-ne-zero}
use native.Mathlib.Numerals.{add-one}
use native.Mathlib.Omega.{arith}
use lib.Dec.{eqb}
use lib.ListN.{length, get_or, length-append}
use borrow.Author.Tests.{eqb-true, eqb-false, eq-eqb, ne_eqb}
use Rattle.subdivision.specs.Formula.{holds, Means}
use Rattle.subdivision.specs.ZoneLine.{position, is_in}
use Rattle.theory.proofs.Decide.{true_or_false, means, held, denies, fails}

pub position_le : (z : ℕ) (l : List ℕ) → position z l ≤ length l
position_le z [] = zero-le
position_le z (x ∷ l) = go (eqb z x) (position_le z l)
  where
    go : (b : Bool) → position z l ≤ length l → (elim b [ true ↦ zero | false ↦ suc (position z l) ]) ≤ suc (length l)
    go true h = zero-le
    go false h = suc-le-suc h

-- a number that stands in a list keeps its place when the list grows
pub position_kept : (z : ℕ) (l k : List ℕ) → position z l < length l → position z (l ++ k) ≡ position z l
position_kept z [] k h = absurd (not-suc-le-zero h)
position_kept z (x ∷ l) k h = go (eqb z x) h (position_kept z l k)
  where
    go : (b : Bool) → (elim b [ true ↦ zero | false ↦ suc (position z l) ]) < suc (length l)
        → (position z l < length l → position z (l ++ k) ≡ position z l)
        → ◌≡◌ {A = ℕ} (elim b [ true ↦ zero | false ↦ suc (position z (l ++ k)) ]) (elim b [ true ↦ zero | false ↦ suc (position z l) ])
    go true h rest = refl
    go false h rest = ap suc (rest (le_of_suc-le-suc h))

-- a number that does not stand in a list has its place at the end, where it is put there
pub position_last : (z : ℕ) (l : List ℕ) → position z l ≡ length l → position z (l ++ (z ∷ [])) ≡ length l
position_last z [] e = rw (eq-eqb z z refl, position)
position_last z (x ∷ l) e = go (eqb z x) e (position_last z l)
  where
    go : (b : Bool) → ◌≡◌ {A = ℕ} (elim b [ true ↦ zero | false ↦ suc (position z l) ]) (suc (length l))
        → (position z l ≡ length l → position z (l ++ (z ∷ [])) ≡ length l)
        → ◌≡◌ {A = ℕ} (elim b [ true ↦ zero | false ↦ suc (position z (l ++ (z ∷ []))) ]) (suc (length l))
    go true h rest = h
    go false h rest = ap suc (rest (omega arith))

-- another number is still not there
pub position_other : (y z : ℕ) (l : List ℕ) → (y ≡ z → ⊥) → position y l ≡ length l → position y (l ++ (z ∷ [])) ≡ suc (length l)
position_other y z [] d e = rw (ne_eqb y z d, position)
position_other y z (x ∷ l) d e = go (eqb y x) e (position_other y z l d)
  where
    go : (b : Bool) → ◌≡◌ {A = ℕ} (elim b [ true ↦ zero | false ↦ suc (position y l) ]) (suc (length l))
        → (position y l ≡ length l → position y (l ++ (z ∷ [])) ≡ suc (length l))
        → ◌≡◌ {A = ℕ} (elim b [ true ↦ zero | false ↦ suc (position y (l ++ (z ∷ []))) ]) (suc (suc (length l)))
    go true h rest = absurd (suc-ne-zero (length l) (sym h))
    go false h rest = ap suc (rest (omega arith))

-- at a number's place stands the number
pub entry_at_place : (z : ℕ) (l : List ℕ) → position z l < length l → get_or l (position z l) 0 ≡ z
entry_at_place z [] h = absurd (not-suc-le-zero h)
entry_at_place z (x ∷ l) h = go (eqb z x) refl h (entry_at_place z l)
  where
    go : (b : Bool) → eqb z x ≡ b → (elim b [ true ↦ zero | false ↦ suc (position z l) ]) < suc (length l)
        → (position z l < length l → get_or l (position z l) 0 ≡ z)
        → get_or (x ∷ l) (elim b [ true ↦ zero | false ↦ suc (position z l) ]) 0 ≡ z
    go true e h rest = sym (eqb-true z x e)
    go false e h rest = rest (le_of_suc-le-suc h)

pub absent : (z : ℕ) (l : List ℕ) → (position z l < length l → ⊥) → position z l ≡ length l
absent z l d = omega (arith, position_le z l)

pub length_snoc : (z : ℕ) (l : List ℕ) → length (l ++ (z ∷ [])) ≡ suc (length l)
length_snoc z l = length-append l (z ∷ []) ∙ add-one (length l)

-- what stands in a longer list: what stood there, or what was put at its end
pub in_snoc : (y z : ℕ) (l : List ℕ) → position y (l ++ (z ∷ [])) < length (l ++ (z ∷ [])) → (position y l < length l) ⊎ (y ≡ z)
in_snoc y z l h =
    ⊎_elim (λ e. inl (means (is_in y l) e)) (λ e. inr (last (absent y l (denies (is_in y l) e)))) (true_or_false (holds (is_in y l)))
  where
    last : position y l ≡ length l → y ≡ z
    last a =
        ⊎_elim (eqb-true y z)
        (λ e. absurd (lt_irrefl (suc (length l)) (rw (position_other y z l (eqb-false y z e) a, length_snoc z l) at h)))
        (true_or_false (eqb y z))

pub in_longer : (y z : ℕ) (l : List ℕ) → Means (is_in y l) → Means (is_in y (l ++ (z ∷ [])))
in_longer y z l h = rw (position_kept y l (z ∷ []) h, length_snoc z l) (omega arith)

pub in_at_end : (z : ℕ) (l : List ℕ) → (Means (is_in z l) → ⊥) → Means (is_in z (l ++ (z ∷ [])))
in_at_end z l d = rw (position_last z l (absent z l d), length_snoc z l) (le_refl (suc (length l)))

-- another number stands in the longer list where it stood in the list
pub in_same : (y z : ℕ) (l : List ℕ) → (y ≡ z → ⊥) → holds (is_in y (l ++ (z ∷ []))) ≡ holds (is_in y l)
in_same y z l d =
    ⊎_elim
    (λ e. held (is_in y (l ++ (z ∷ []))) (in_longer y z l (means (is_in y l) e)) ∙ sym e)
    (λ e. fails (is_in y (l ++ (z ∷ []))) (λ i. ⊎_elim (denies (is_in y l) e) d (in_snoc y z l i)) ∙ sym e)
    (true_or_false (holds (is_in y l)))
