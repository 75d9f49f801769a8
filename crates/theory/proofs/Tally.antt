-- How many entries of a list pass a test.
use mathlib.Core.Path.{◌≡◌, refl, ap}
use mathlib.Core.Bool.{Bool, true, false}
use mathlib.Core.List.{List, [], ◌∷◌, ◌++◌}
use Prim.Native.Nat.{ℕ, zero, suc, ◌+◌, ◌<◌, ◌≤◌, suc-le-suc}
use native.Mathlib.Nat.{zero-lt-suc, not-suc-le-zero, le_of_suc-le-suc, suc-ne-zero}
use native.Mathlib.Omega.{arith}
use lib.ListN.{length, get_or}

-- how many entries of a list pass the test
abbrev pub tally : (ℕ → Bool) → List ℕ → ℕ
tally test [] = zero
tally test (x ∷ xs) = elim (test x) [ true ↦ suc (tally test xs) | false ↦ tally test xs ]

-- two lists joined count what both count
pub tally_append : (test : ℕ → Bool) (l k : List ℕ) → tally test (l ++ k) ≡ tally test l + tally test k
tally_append test [] k = omega arith
tally_append test (x ∷ l) k = go (test x) (tally_append test l k)
  where
    go : (b : Bool) → tally test (l ++ k) ≡ tally test l + tally test k
        → ◌≡◌ {A = ℕ} (elim b [ true ↦ suc (tally test (l ++ k)) | false ↦ tally test (l ++ k) ]) ((elim b [ true ↦ suc (tally test l) | false ↦ tally test l ]) + tally test k)
    go true e = omega arith
    go false e = e

-- an entry at the end that passes counts one more
pub tally_passed : (test : ℕ → Bool) (l : List ℕ) (x : ℕ) → test x ≡ true → tally test (l ++ (x ∷ [])) ≡ suc (tally test l)
tally_passed test l x e =
    let one : tally test (x ∷ []) ≡ 1 = rw (e, tally) in
    omega (arith, tally_append test l (x ∷ []))

-- an entry at the end that does not pass counts nothing
pub tally_missed : (test : ℕ → Bool) (l : List ℕ) (x : ℕ) → test x ≡ false → tally test (l ++ (x ∷ [])) ≡ tally test l
tally_missed test l x e =
    let none : tally test (x ∷ []) ≡ 0 = rw (e, tally) in
    omega (arith, tally_append test l (x ∷ []))

pub tally_le : (test : ℕ → Bool) (l : List ℕ) → tally test l ≤ length l
tally_le test [] = omega arith
tally_le test (x ∷ l) = go (test x) (tally_le test l)
  where
    go : (b : Bool) → tally test l ≤ length l → (elim b [ true ↦ suc (tally test l) | false ↦ tally test l ]) ≤ suc (length l)
    go true h = suc-le-suc h
    go false h = omega arith

-- two tests that agree on every entry count the same
pub tally_same : (test other : ℕ → Bool) (l : List ℕ) → ((i : ℕ) → i < length l → test (get_or l i 0) ≡ other (get_or l i 0)) → tally test l ≡ tally other l
tally_same test other [] f = refl
tally_same test other (x ∷ l) f =
    rw (f zero (zero-lt-suc (length l)), tally)
    (ap (λ (n : ℕ). elim (other x) [ true ↦ suc n | false ↦ n ]) (tally_same test other l (λ i h. f (suc i) (suc-le-suc h))))

-- a tally of none: no entry passes
pub tally_none : (test : ℕ → Bool) (l : List ℕ) → tally test l ≡ 0 → (i : ℕ) → i < length l → test (get_or l i 0) ≡ false
tally_none test [] e i h = absurd (not-suc-le-zero h)
tally_none test (x ∷ l) e i h = go (test x) refl e i h (tally_none test l)
  where
    go : (b : Bool) → test x ≡ b → ◌≡◌ {A = ℕ} (elim b [ true ↦ suc (tally test l) | false ↦ tally test l ]) 0 → (i : ℕ) → i < suc (length l)
        → (tally test l ≡ 0 → (i : ℕ) → i < length l → test (get_or l i 0) ≡ false) → test (get_or (x ∷ l) i 0) ≡ false
    go true p z i h rest = absurd (suc-ne-zero (tally test l) z)
    go false p z zero h rest = p
    go false p z (suc i) h rest = rest z i (le_of_suc-le-suc h)

-- where no entry passes, the tally is none
pub none_tally : (test : ℕ → Bool) (l : List ℕ) → ((i : ℕ) → i < length l → test (get_or l i 0) ≡ false) → tally test l ≡ 0
none_tally test [] f = refl
none_tally test (x ∷ l) f = rw (f zero (zero-lt-suc (length l)), tally) (none_tally test l (λ i h. f (suc i) (suc-le-suc h)))
