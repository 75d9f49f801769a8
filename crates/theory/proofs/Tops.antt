-- A set of numbers below a count that is not empty has one of greatest height, and one of least.
use mathlib.Core.Path.{◌≡◌}
use mathlib.Core.Bool.{true, false}
use mathlib.Core.Logic.{◌⊎◌, inl, inr, ⊎_elim}
use Prim.Native.Nat.{ℕ, zero, suc, ◌-◌, ◌<◌, ◌≤◌}
use native.Mathlib.Decide.{dec_le}
use native.Mathlib.Nat.{not-suc-le-zero, lt-suc_self, le_refl}
use native.Mathlib.Omega.{arith}
use Rattle.subdivision.specs.Formula.{Formula, holds, Means}
use Rattle.theory.proofs.Decide.{true_or_false, below_suc, means, denies}

module _ (p : ℕ → Formula) (h : ℕ → ℕ) where
  -- t is in the set, and none of the set below the count is higher
  abbrev pub Highest : ℕ → ℕ → Type 0
  Highest n t = (t < n) × (Means (p t) × ((g : ℕ) → g < n → Means (p g) → h g ≤ h t))

  -- one number more, which is of the set and at least as high as those before it
  pub highest_new : (n : ℕ) → Means (p n) → ((g : ℕ) → g < n → Means (p g) → h g ≤ h n) → Highest (suc n) n
  highest_new n m f = (lt-suc_self n, (m, λ g b o. ⊎_elim (λ (i : g ≡ n). rw i (le_refl (h n))) (λ l. f g l o) (below_suc b)))

  -- one number more, which is not of the set or not higher
  pub highest_kept : (n t : ℕ) → Highest n t → (Means (p n) → h n ≤ h t) → Highest (suc n) t
  highest_kept n t k f = (omega (arith, k.0), (k.1.0, λ g b m. ⊎_elim (λ (i : g ≡ n). rw i (f (rw i at m))) (λ l. k.1.1 g l m) (below_suc b)))

  -- the set has none below the count, or a highest one
  none_or_highest : (n : ℕ) → ((g : ℕ) → g < n → Means (p g) → ⊥) ⊎ ((t : ℕ) × Highest n t)
  none_or_highest zero = inl (λ g b. absurd (not-suc-le-zero b))
  none_or_highest (suc n) = go (true_or_false (holds (p n))) (none_or_highest n)
    where
      higher : (t : (t : ℕ) × Highest n t) → Means (p n) → Dec (h n ≤ h t.0) → (t : ℕ) × Highest (suc n) t
      higher t m (yes l) = (t.0, highest_kept n t.0 t.1 (λ o. l))
      higher t m (no l) = (n, highest_new n m (λ g b o. omega (arith, t.1.1.1 g b o)))

      go : (holds (p n) ≡ true) ⊎ (holds (p n) ≡ false) → ((g : ℕ) → g < n → Means (p g) → ⊥) ⊎ ((t : ℕ) × Highest n t)
          → ((g : ℕ) → g < suc n → Means (p g) → ⊥) ⊎ ((t : ℕ) × Highest (suc n) t)
      go (inl e) (inl f) = inr (n, highest_new n (means (p n) e) (λ g b m. absurd (f g b m)))
      go (inl e) (inr t) = inr (higher t (means (p n) e) (dec_le (h n) (h t.0)))
      go (inr e) (inl f) = inl (λ g b m. ⊎_elim (λ (i : g ≡ n). denies (p n) e (rw i at m)) (λ l. f g l m) (below_suc b))
      go (inr e) (inr t) = inr (t.0, highest_kept n t.0 t.1 (λ m. absurd (denies (p n) e m)))

  -- of a set that has a number below the count, one is highest
  pub has_highest : (n e : ℕ) → e < n → Means (p e) → (t : ℕ) × Highest n t
  has_highest n e b m = ⊎_elim (λ f. absurd (f e b m)) (λ t. t) (none_or_highest n)

-- of a set that has a number below the count, one is lowest
pub has_lowest : (p : ℕ → Formula) (h : ℕ → ℕ) (n e : ℕ) → e < n → Means (p e)
    → (t : ℕ) × (t < n) × (Means (p t) × ((g : ℕ) → g < n → Means (p g) → h t ≤ h g))
has_lowest p h n e b m =
    let t = has_highest p (λ g. suc (h e) - h g) n e b m in
    (t.0, t.1.0, (t.1.1.0, λ g l o. omega (arith, t.1.1.1 g l o, t.1.1.1 e b m)))
