-- The highest edge beneath a point, one edge more at a time.
use Rattle.std.specs.Prelude.{◌≡◌, Bool, true, false, List, ℕ, zero, suc, ◌+◌, ◌<◌, ◌≤◌, ltb, ℤ, Option, Some, None, unwrap_or, IfSome}
use Rattle.std.proofs.Common.{refl, sym, add-one, arith}
use Rattle.std.proofs.lemmas.Bool.{ltb-true, ltb-false}
use Rattle.subdivision.specs.Formula.{holds}
use Rattle.subdivision.specs.Lowest.{found}
use Rattle.theory.proofs.Lowest.{found_below}
use Rattle.scans.specs.Scans.{takes_over, highest_to}

module _ (vertices : List ℤ) (edges : List ℕ) (x y margin none : ℕ) where
  -- the highest of the first k edges, `none` for none
  left : ℕ → ℕ
  left k = highest_to vertices edges x y margin none k

  -- it is one of them, or `none`
  left_within : (k : ℕ) → k ≤ none → left k ≤ none
  unfolding left
  left_within zero h = omega arith
  left_within (suc k) h = go (holds (takes_over vertices edges x y margin none (left k) k)) (left_within k (omega arith))
    where
      go : (b : Bool) → left k ≤ none → (elim b [ true ↦ k | false ↦ left k ]) ≤ none
      go true l = omega arith
      go false l = l

  -- a number that is at most `none` stands for what is found of it
  stands_for : (best : Option ℕ) (i : ℕ) → i ≤ none → best ≡ found none i → (IfSome best (λ b. b ≡ none → ⊥)) × (unwrap_or best none ≡ i)
  stands_for best i h e = rw e (go (ltb i none) refl)
    where
      go : (t : Bool) → ltb i none ≡ t → (IfSome (elim t [ true ↦ Some i | false ↦ None ]) (λ b. b ≡ none → ⊥)) × (unwrap_or (elim t [ true ↦ Some i | false ↦ None ]) none ≡ i)
      go true t = let l = ltb-true i none t in (λ p. omega arith, refl)
      go false t = let l = ltb-false i none t in (tt, omega arith)

  -- the best after an edge: that edge where it takes over, and otherwise what it was
  pub best_next : (best : Option ℕ) (k : ℕ) (r : Bool) → k < none → best ≡ found none (highest_to vertices edges x y margin none k)
      → ((n : ℕ) → IfSome best (λ b. b ≡ n → ⊥) → r ≡ holds (takes_over vertices edges x y margin n (unwrap_or best n) k))
      → elim r [ true ↦ Some k | false ↦ best ] ≡ found none (highest_to vertices edges x y margin none (k + 1))
  unfolding left
  best_next best k r h b t = rw (add-one k) (go r told)
    where
      s : (IfSome best (λ b. b ≡ none → ⊥)) × (unwrap_or best none ≡ left k)
      s = stands_for best (left k) (left_within k (omega arith)) b

      told : r ≡ holds (takes_over vertices edges x y margin none (left k) k)
      told = rw s.1 at (t none s.0)

      go : (r : Bool) → r ≡ holds (takes_over vertices edges x y margin none (left k) k)
          → elim r [ true ↦ Some k | false ↦ best ] ≡ found none (elim (holds (takes_over vertices edges x y margin none (left k) k)) [ true ↦ k | false ↦ left k ])
      go true e = rw (sym e) (sym (found_below none k h))
      go false e = rw (sym e) b
