-- Laws of the numbers below a count that pass a test, and of readings entered in the order of a list.
use mathlib.Core.Path.{◌≡◌, refl, sym, ap, ◌∙◌}
use mathlib.Core.Bool.{Bool, true, false}
use mathlib.Core.List.{List, [], ◌∷◌, ◌++◌, append-nil}
use mathlib.Core.Logic.{◌⊎◌, inl, inr}
use Prim.Native.Nat.{ℕ, zero, suc, ◌+◌, ◌≤◌, ◌<◌, zero-le}
use native.Mathlib.Nat.{zero-add, le_refl, lt-suc_self, not-suc-le-zero}
use native.Mathlib.Numerals.{add-one}
use native.Mathlib.Decide.{dec_le}
use native.Mathlib.Omega.{arith}
use borrow.Author.Tests.{eq-eqb, ne_eqb}
use lib.Dec.{eqb}
use lib.ListN.{length, length-append}
use Rattle.ledger.specs.declared.Reading.{Reading}
use Rattle.ledger.specs.declared.Tally.{Tally}
use Rattle.ledger.specs.Tallies.{enter, entering}
use Rattle.ledger.specs.Months.{those}
use Rattle.ledger.specs.Promises.{times}
use Rattle.theory.proofs.Decide.{below_suc}

-- a number, where its test passes
abbrev pub alone : Bool → ℕ → List ℕ
alone b k = elim b [ true ↦ k ∷ [] | false ↦ [] ]

module _ (test : ℕ → Bool) where
  -- one number more comes at the end, where it passes
  those_more : (k : ℕ) → those test (k + 1) ≡ those test k ++ (elim (test k) [ true ↦ k ∷ [] | false ↦ [] ])
  those_more k = rw (add-one k)

  -- one number more, which passes
  pub those_with : (k : ℕ) → test k ≡ true → those test (k + 1) ≡ those test k ++ (k ∷ [])
  those_with k e = those_more k ∙ rw e

  -- one number more, which fails
  pub those_without : (k : ℕ) → test k ≡ false → those test (k + 1) ≡ those test k
  those_without k e = those_more k ∙ rw e (append-nil (those test k))

-- tests that agree below the count pass the same numbers
pub those_same : (test other : ℕ → Bool) (n : ℕ) → ((k : ℕ) → k < n → test k ≡ other k) → those test n ≡ those other n
those_same test other zero f = refl
those_same test other (suc n) f = λ i. those_same test other n (λ k h. f k (omega arith)) i ++ alone (f n (lt-suc_self n) i) n

-- no more numbers pass than there are
pub those_length : (test : ℕ → Bool) (n : ℕ) → length (those test n) ≤ n
those_length test zero = zero-le
those_length test (suc n) = omega (arith, those_length test n, length-append (those test n) (alone (test n) n), one (test n))
  where
    one : (b : Bool) → length (alone b n) ≤ 1
    one true = le_refl 1
    one false = zero-le

-- ---- how often a number is among them

-- in one list after another a number is as often as in both
times_append : (k : ℕ) (ks js : List ℕ) → times k (ks ++ js) ≡ times k ks + times k js
times_append k [] js = sym (zero-add (times k js))
times_append k (j ∷ ks) js = go (eqb j k) (times_append k ks js)
  where
    go : (b : Bool) → times k (ks ++ js) ≡ times k ks + times k js
        → (elim b [ true ↦ 1 + times k (ks ++ js) | false ↦ times k (ks ++ js) ]) ≡ (elim b [ true ↦ 1 + times k ks | false ↦ times k ks ]) + times k js
    go true e = omega arith
    go false e = e

-- a number alone is there once where it passes
times_alone : (k : ℕ) (b : Bool) → times k (alone b k) ≡ elim b [ true ↦ 1 | false ↦ 0 ]
times_alone k true = rw (eq-eqb k k refl, times)
times_alone k false = refl

-- another number alone is not it
times_other : (k n : ℕ) (b : Bool) → (n ≡ k → ⊥) → times k (alone b n) ≡ 0
times_other k n true f = rw (ne_eqb n k f, times)
times_other k n false f = refl

-- a number past the count is not among them
times_past : (test : ℕ → Bool) (n k : ℕ) → n ≤ k → times k (those test n) ≡ 0
times_past test zero k h = refl
times_past test (suc n) k h =
    omega (arith, times_append k (those test n) (alone (test n) n), times_past test n k (omega arith), times_other k n (test n) (λ e. omega arith))

-- a number below the count is among them once where it passes, and else not
pub times_those : (test : ℕ → Bool) (n k : ℕ) → k < n → times k (those test n) ≡ elim (test k) [ true ↦ 1 | false ↦ 0 ]
times_those test zero k h = absurd (not-suc-le-zero h)
times_those test (suc n) k h = times_append k (those test n) (alone (test n) n) ∙ go (below_suc h) (times_those test n k)
  where
    go : (k ≡ n) ⊎ (k < n) → (k < n → times k (those test n) ≡ elim (test k) [ true ↦ 1 | false ↦ 0 ])
        → times k (those test n) + times k (alone (test n) n) ≡ elim (test k) [ true ↦ 1 | false ↦ 0 ]
    go (inl e) rest = rw e (omega (arith, times_past test n n (le_refl n), times_alone n (test n)))
    go (inr l) rest = omega (arith, rest l, times_other k n (test n) (λ e. omega arith))

-- one that is the only one is below the count and passes
pub those_only : (test : ℕ → Bool) (n k : ℕ) → those test n ≡ k ∷ [] → (k < n) × (test k ≡ true)
those_only test n k e = below (dec_le n k)
  where
    once : times k (those test n) ≡ 1
    once = ap (times k) e ∙ times_alone k true

    passed : (b : Bool) → ◌≡◌ {A = ℕ} (elim b [ true ↦ 1 | false ↦ 0 ]) 1 → b ≡ true
    passed true q = refl
    passed false q = absurd (omega arith)

    below : Dec (n ≤ k) → (k < n) × (test k ≡ true)
    below (yes h) = absurd (omega (arith, once, times_past test n k h))
    below (no h) =
        let l : k < n = omega arith in
        (l, passed (test k) (sym (times_those test n k l) ∙ once))

-- ---- readings entered

-- the readings of one list after another are those of the second, entered after those of the first
pub entering_append : (reading : ℕ → Reading) (t : Tally) (ks js : List ℕ)
    → entering reading t (ks ++ js) ≡ entering reading (entering reading t ks) js
entering_append reading t [] js = refl
entering_append reading t (k ∷ ks) js = entering_append reading (enter t (reading k)) ks js
