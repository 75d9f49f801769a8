-- The computed reading of a formula decides the statement that it makes.
use mathlib.Core.Path.{◌≡◌, refl, sym, ◌∙◌}
use mathlib.Core.Bool.{Bool, true, false, not, true≢false, false≢true}
use mathlib.Core.Logic.{◌⊎◌, inl, inr, ⊎_elim}
use Prim.Native.Nat.{ℕ, zero, suc, ◌<◌}
use native.Mathlib.Nat.{not-suc-le-zero, lt-suc_self, le_of_suc-le-suc, eq-or-lt_of_le}
use native.Mathlib.Omega.{arith}
use borrow.Author.Tests.{ltb-true, leb-true, eqb-true, lt-ltb, le-leb, eq-eqb}
use Rattle.subdivision.specs.Formula.{Formula, is_less, is_at_most, is_equal, both, either, implies, not_so, every_below, some_below, every_under, some_under, holds, Means}

-- ---- tests

pub not_both : {b : Bool} → b ≡ true → b ≡ false → ⊥
not_both p q = true≢false (sym p ∙ q)

pub true_or_false : (b : Bool) → (b ≡ true) ⊎ (b ≡ false)
true_or_false true = inl refl
true_or_false false = inr refl

both_yes : (a b : Bool) → ◌≡◌ {A = Bool} (elim a [ true ↦ b | false ↦ false ]) true → (a ≡ true) × (b ≡ true)
both_yes true b e = (refl, e)
both_yes false b e = absurd (false≢true e)

yes_both : (a b : Bool) → a ≡ true → b ≡ true → ◌≡◌ {A = Bool} (elim a [ true ↦ b | false ↦ false ]) true
yes_both true b p q = q
yes_both false b p q = p

either_yes : (a b : Bool) → ◌≡◌ {A = Bool} (elim a [ true ↦ true | false ↦ b ]) true → (a ≡ true) ⊎ (b ≡ true)
either_yes true b e = inl refl
either_yes false b e = inr e

pub yes_left : (a b : Bool) → a ≡ true → ◌≡◌ {A = Bool} (elim a [ true ↦ true | false ↦ b ]) true
yes_left true b e = refl
yes_left false b e = absurd (false≢true e)

pub yes_right : (a b : Bool) → b ≡ true → ◌≡◌ {A = Bool} (elim a [ true ↦ true | false ↦ b ]) true
yes_right true b e = refl
yes_right false b e = e

implies_yes : (a b : Bool) → ◌≡◌ {A = Bool} (elim a [ true ↦ b | false ↦ true ]) true → a ≡ true → b ≡ true
implies_yes true b e p = e
implies_yes false b e p = absurd (false≢true p)

yes_implies : (a b : Bool) → (a ≡ true → b ≡ true) → ◌≡◌ {A = Bool} (elim a [ true ↦ b | false ↦ true ]) true
yes_implies true b f = f refl
yes_implies false b f = refl

not_yes : (a : Bool) → not a ≡ true → a ≡ true → ⊥
not_yes true e p = false≢true e
not_yes false e p = false≢true p

yes_not : (a : Bool) → (a ≡ true → ⊥) → not a ≡ true
yes_not true f = absurd (f refl)
yes_not false f = refl

-- k below suc n is n or below n
pub below_suc : {k n : ℕ} → k < suc n → (k ≡ n) ⊎ (k < n)
below_suc h = eq-or-lt_of_le (le_of_suc-le-suc h)

pub every_yes : (n : ℕ) (test : ℕ → Bool) → every_under n test ≡ true → (k : ℕ) → k < n → test k ≡ true
every_yes zero test e k h = absurd (not-suc-le-zero h)
every_yes (suc n) test e k h =
    let p = both_yes (test n) (every_under n test) e in
    ⊎_elim (λ (i : k ≡ n). rw i p.0) (λ l. every_yes n test p.1 k l) (below_suc h)

pub yes_every : (n : ℕ) (test : ℕ → Bool) → ((k : ℕ) → k < n → test k ≡ true) → every_under n test ≡ true
yes_every zero test f = refl
yes_every (suc n) test f =
    yes_both (test n) (every_under n test) (f n (lt-suc_self n)) (yes_every n test (λ k h. f k (omega arith)))

pub some_yes : (n : ℕ) (test : ℕ → Bool) → some_under n test ≡ true → (k : ℕ) × (k < n) × (test k ≡ true)
some_yes zero test e = absurd (false≢true e)
some_yes (suc n) test e =
    ⊎_elim (λ p. (n, lt-suc_self n, p)) (λ q. up (some_yes n test q)) (either_yes (test n) (some_under n test) e)
  where
    up : (k : ℕ) × (k < n) × (test k ≡ true) → (k : ℕ) × (k < suc n) × (test k ≡ true)
    up r = (r.0, omega (arith, r.1), r.2)

pub yes_some : (n : ℕ) (test : ℕ → Bool) (k : ℕ) → k < n → test k ≡ true → some_under n test ≡ true
yes_some zero test k h e = absurd (not-suc-le-zero h)
yes_some (suc n) test k h e =
    ⊎_elim (λ (i : k ≡ n). yes_left (test n) (some_under n test) (rw i at e)) (λ l. yes_right (test n) (some_under n test) (yes_some n test k l e)) (below_suc h)

pub every_no : (n : ℕ) (test : ℕ → Bool) → every_under n test ≡ false → (k : ℕ) × (k < n) × (test k ≡ false)
every_no zero test e = absurd (true≢false e)
every_no (suc n) test e = go (test n) refl e (every_no n test)
  where
    go : (b : Bool) → test n ≡ b → ◌≡◌ {A = Bool} (elim b [ true ↦ every_under n test | false ↦ false ]) false
        → (every_under n test ≡ false → (k : ℕ) × (k < n) × (test k ≡ false)) → (k : ℕ) × (k < suc n) × (test k ≡ false)
    go true p z rest = ((rest z).0, omega (arith, (rest z).1), (rest z).2)
    go false p z rest = (n, lt-suc_self n, p)

-- ---- formulas

-- the computed reading decides the statement, both ways
pub decides : (p : Formula) → (holds p ≡ true → Means p) × (Means p → holds p ≡ true)
decides (is_less a b) = (ltb-true a b, lt-ltb a b)
decides (is_at_most a b) = (leb-true a b, le-leb a b)
decides (is_equal a b) = (eqb-true a b, eq-eqb a b)
decides (both p q) =
    (λ e. ((decides p).0 (both_yes (holds p) (holds q) e).0, (decides q).0 (both_yes (holds p) (holds q) e).1), λ m. yes_both (holds p) (holds q) ((decides p).1 m.0) ((decides q).1 m.1))
decides (either p q) =
    (λ e. ⊎_elim (λ a. inl ((decides p).0 a)) (λ b. inr ((decides q).0 b)) (either_yes (holds p) (holds q) e), λ m. ⊎_elim (λ a. yes_left (holds p) (holds q) ((decides p).1 a)) (λ b. yes_right (holds p) (holds q) ((decides q).1 b)) m)
decides (implies p q) =
    (λ e m. (decides q).0 (implies_yes (holds p) (holds q) e ((decides p).1 m)), λ f. yes_implies (holds p) (holds q) (λ a. (decides q).1 (f ((decides p).0 a))))
decides (not_so p) =
    (λ e m. not_yes (holds p) e ((decides p).1 m), λ f. yes_not (holds p) (λ a. f ((decides p).0 a)))
decides (every_below n p) =
    (λ e k h. (decides (p k)).0 (every_yes n (λ i. holds (p i)) e k h), λ f. yes_every n (λ i. holds (p i)) (λ k h. (decides (p k)).1 (f k h)))
decides (some_below n p) =
    (λ e. ((some_yes n (λ i. holds (p i)) e).0, (some_yes n (λ i. holds (p i)) e).1, (decides (p (some_yes n (λ i. holds (p i)) e).0)).0 (some_yes n (λ i. holds (p i)) e).2), λ m. yes_some n (λ i. holds (p i)) m.0 m.1 ((decides (p m.0)).1 m.2))

-- what holds is so
pub means : (p : Formula) → holds p ≡ true → Means p
means p = (decides p).0

-- what is so holds
pub held : (p : Formula) → Means p → holds p ≡ true
held p = (decides p).1

-- what fails is not so
pub denies : (p : Formula) → holds p ≡ false → Means p → ⊥
denies p e m = not_both (held p m) e

-- what is not so fails
pub fails : (p : Formula) → (Means p → ⊥) → holds p ≡ false
fails p f = ⊎_elim (λ e. absurd (f (means p e))) (λ e. e) (true_or_false (holds p))

-- a formula is so, or it is not
pub decided : (p : Formula) → Means p ⊎ (Means p → ⊥)
decided p = ⊎_elim (λ e. inl (means p e)) (λ e. inr (denies p e)) (true_or_false (holds p))

-- a formula made of two, where the first is known
pub both_goes_on : (p q : Formula) → holds p ≡ true → holds (both p q) ≡ holds q
both_goes_on p q e = rw e

pub both_ends : (p q : Formula) → holds p ≡ false → holds (both p q) ≡ false
both_ends p q e = rw e

pub either_goes_on : (p q : Formula) → holds p ≡ false → holds (either p q) ≡ holds q
either_goes_on p q e = rw e

pub either_ends : (p q : Formula) → holds p ≡ true → holds (either p q) ≡ true
either_ends p q e = rw e

-- a test that passes where a formula is so, and fails where it is not, is the formula computed
pub computes : (p : Formula) (b : Bool) → (b ≡ true → Means p) → (b ≡ false → Means p → ⊥) → b ≡ holds p
computes p true f g = sym (held p (f refl))
computes p false f g = sym (fails p (g refl))

-- where not every item keeps a clause, some item breaks it
pub broken_item : (n : ℕ) (p : ℕ → Formula) → holds (every_below n p) ≡ false → (k : ℕ) × (k < n) × (Means (p k) → ⊥)
broken_item n p e =
    ((every_no n (λ i. holds (p i)) e).0, (every_no n (λ i. holds (p i)) e).1, denies (p (every_no n (λ i. holds (p i)) e).0) (every_no n (λ i. holds (p i)) e).2)

-- of two formulas the first is so and the second is not, where the second does not follow
pub broken_implies : (p q : Formula) → (Means (implies p q) → ⊥) → Means p × (Means q → ⊥)
broken_implies p q f =
    ⊎_elim (λ e. (means p e, λ m. f (λ a. m))) (λ e. absurd (f (λ a. absurd (denies p e a)))) (true_or_false (holds p))
