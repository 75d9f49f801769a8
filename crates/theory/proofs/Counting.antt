-- How many numbers below a count pass a test.
use mathlib.Core.Path.{◌≡◌, refl, sym, ap, ◌∙◌}
use mathlib.Core.Bool.{Bool, true, false}
use mathlib.Core.Logic.{⊎_elim}
use Prim.Native.Nat.{ℕ, zero, suc, ◌+◌, ◌<◌, ◌≤◌}
use native.Mathlib.Nat.{not-suc-le-zero, lt-suc_self, lt_irrefl, le_refl, add-zero, suc-ne-zero, ne_of_lt}
use native.Mathlib.Omega.{arith}
use borrow.Author.Tests.{ne_eqb}
use Rattle.subdivision.specs.Formula.{Formula, is_equal, not_so, some_below, some_under, holds, Means}
use Rattle.theory.proofs.Decide.{true_or_false, below_suc, means, held, denies, fails}

-- how many numbers below the count pass the test
abbrev pub count_under : ℕ → (ℕ → Bool) → ℕ
count_under zero test = zero
count_under (suc n) test = elim (test n) [ true ↦ suc (count_under n test) | false ↦ count_under n test ]

-- the test passes at every number: the count is the whole count
pub count_all : (n : ℕ) (test : ℕ → Bool) → ((k : ℕ) → k < n → test k ≡ true) → count_under n test ≡ n
count_all zero test f = refl
count_all (suc n) test f = rw (f n (lt-suc_self n), count_under) (ap suc (count_all n test (λ k h. f k (omega arith))))

-- a count of none: the test fails everywhere
pub count_none : (n : ℕ) (test : ℕ → Bool) → count_under n test ≡ 0 → (k : ℕ) → k < n → test k ≡ false
count_none zero test e k h = absurd (not-suc-le-zero h)
count_none (suc n) test e k h = go (test n) refl e (count_none n test)
  where
    go : (b : Bool) → test n ≡ b → ◌≡◌ {A = ℕ} (elim b [ true ↦ suc (count_under n test) | false ↦ count_under n test ]) 0
        → (count_under n test ≡ 0 → (k : ℕ) → k < n → test k ≡ false) → test k ≡ false
    go true p z rest = absurd (suc-ne-zero (count_under n test) z)
    go false p z rest = ⊎_elim (λ (i : k ≡ n). rw i p) (rest z k) (below_suc h)

-- the test fails everywhere: a count of none
pub none_counted : (n : ℕ) (test : ℕ → Bool) → ((k : ℕ) → k < n → test k ≡ false) → count_under n test ≡ 0
none_counted zero test f = refl
none_counted (suc n) test f = rw (f n (lt-suc_self n), count_under) (none_counted n test (λ k h. f k (omega arith)))

-- a count of some: the test passes somewhere
pub count_some : (n : ℕ) (test : ℕ → Bool) → 0 < count_under n test → (k : ℕ) × (k < n) × (test k ≡ true)
count_some zero test h = absurd (not-suc-le-zero h)
count_some (suc n) test h = go (test n) refl h (count_some n test)
  where
    go : (b : Bool) → test n ≡ b → 0 < (elim b [ true ↦ suc (count_under n test) | false ↦ count_under n test ])
        → (0 < count_under n test → (k : ℕ) × (k < n) × (test k ≡ true)) → (k : ℕ) × (k < suc n) × (test k ≡ true)
    go true p z rest = (n, lt-suc_self n, p)
    go false p z rest = ((rest z).0, omega (arith, (rest z).1), (rest z).2)

-- two tests that agree everywhere count the same
pub count_same : (n : ℕ) (test other : ℕ → Bool) → ((k : ℕ) → k < n → test k ≡ other k) → count_under n test ≡ count_under n other
count_same zero test other f = refl
count_same (suc n) test other f =
    rw (f n (lt-suc_self n), count_under)
    (ap (λ (x : ℕ). elim (other n) [ true ↦ suc x | false ↦ x ]) (count_same n test other (λ k h. f k (omega arith))))

-- two tests that differ at z alone, which the first passes: one less
pub count_less : (n : ℕ) (test other : ℕ → Bool) (z : ℕ) → z < n → test z ≡ true → other z ≡ false
    → ((k : ℕ) → k < n → (k ≡ z → ⊥) → test k ≡ other k) → count_under n test ≡ suc (count_under n other)
count_less zero test other z h p q f = absurd (not-suc-le-zero h)
count_less (suc n) test other z h p q f =
    ⊎_elim here (λ l. there (f n (lt-suc_self n) (λ e. ne_of_lt l (sym e))) (count_less n test other z l p q (λ k l' d. f k (omega arith) d))) (below_suc h)
  where
    here : z ≡ n → count_under (suc n) test ≡ suc (count_under (suc n) other)
    here i =
        let a : test n ≡ true = rw i at p in
        let b : other n ≡ false = rw i at q in
        rw (a, b, count_same n test other (λ k l. f k (omega arith) (λ e. ne_of_lt l (e ∙ i))), count_under)

    there : test n ≡ other n → count_under n test ≡ suc (count_under n other) → count_under (suc n) test ≡ suc (count_under (suc n) other)
    there a e = go (other n) refl
      where
        go : (b : Bool) → other n ≡ b → count_under (suc n) test ≡ suc (count_under (suc n) other)
        go true o = rw (a, o, count_under) (ap suc e)
        go false o = rw (a, o, count_under) e

module _ (n : ℕ) (f : ℕ → ℕ) (fits : (k : ℕ) → k ≤ n → f k < n) where
  -- z is the value of a number below k
  abbrev valued : ℕ → ℕ → Formula
  valued k z = some_below k (λ i. is_equal (f i) z)

  -- z is the value of none of them
  abbrev fresh : ℕ → ℕ → Bool
  fresh k z = holds (not_so (valued k z))

  -- while no value comes again, each number takes one of those left
  fresh_left : (k : ℕ) → k ≤ suc n → ((j : ℕ) → j < k → Means (valued j (f j)) → ⊥) → count_under n (fresh k) + k ≡ n
  fresh_left zero h d = rw add-zero (count_all n (fresh 0) (λ z b. refl))
  fresh_left (suc k) h d = omega (arith, taken, fresh_left k (omega arith) (λ j b. d j (omega arith)))
    where
      same : (z : ℕ) → (z ≡ f k → ⊥) → fresh k z ≡ fresh (suc k) z
      same z o = rw (ne_eqb (f k) z (λ e. o (sym e)), some_under)

      taken : count_under n (fresh k) ≡ suc (count_under n (fresh (suc k)))
      taken =
          count_less n (fresh k) (fresh (suc k)) (f k) (fits k (omega arith)) (held (not_so (valued k (f k))) (d k (lt-suc_self k)))
          (fails (not_so (valued (suc k) (f k))) (λ g. g (k, lt-suc_self k, refl)))
          (λ z b o. same z o)

  -- of one more number than there are values, two have the same value
  pub pigeonhole : (j : ℕ) × (j < suc n) × ((i : ℕ) × (i < j) × (f i ≡ f j))
  pigeonhole =
      ⊎_elim (means again)
      (λ e. absurd (lt_irrefl n (omega (arith, fresh_left (suc n) (le_refl (suc n)) (λ j b m. denies again e (j, b, m))))))
      (true_or_false (holds again))
    where
      again : Formula
      again = some_below (suc n) (λ j. valued j (f j))
