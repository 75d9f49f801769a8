-- Bounded formulas: each rule of document 01 is written once, as a formula, and read two ways. `holds` computes it, and
-- `Means` is the statement that it makes, in the library's own symbols. `Decide.antt` proves that the first decides the second.
use Rattle.std.specs.Prelude.{◌≡◌, Bool, true, false, not, ◌⊎◌, ℕ, zero, suc, ◌<◌, ◌≤◌, leb, ltb, eqb}

-- a formula: an order or equality of two numbers, or one made of others, with all or some of the numbers below a count
pub data Formula : Type 0 where
  is_less is_at_most is_equal : ℕ → ℕ → Formula
  both either implies : Formula → Formula → Formula
  not_so : Formula → Formula
  every_below some_below : ℕ → (ℕ → Formula) → Formula

-- the test passes at every number below the count
abbrev pub every_under : ℕ → (ℕ → Bool) → Bool
every_under zero test = true
every_under (suc n) test = elim (test n) [ true ↦ every_under n test | false ↦ false ]

-- the test passes at some number below the count
abbrev pub some_under : ℕ → (ℕ → Bool) → Bool
some_under zero test = false
some_under (suc n) test = elim (test n) [ true ↦ true | false ↦ some_under n test ]

-- the formula, computed
abbrev pub holds : Formula → Bool
holds (is_less a b) = ltb a b
holds (is_at_most a b) = leb a b
holds (is_equal a b) = eqb a b
holds (both p q) = elim (holds p) [ true ↦ holds q | false ↦ false ]
holds (either p q) = elim (holds p) [ true ↦ true | false ↦ holds q ]
holds (implies p q) = elim (holds p) [ true ↦ holds q | false ↦ true ]
holds (not_so p) = not (holds p)
holds (every_below n p) = every_under n (λ k. holds (p k))
holds (some_below n p) = some_under n (λ k. holds (p k))

-- the statement that the formula makes
abbrev pub Means : Formula → Type 0
Means (is_less a b) = a < b
Means (is_at_most a b) = a ≤ b
Means (is_equal a b) = a ≡ b
Means (both p q) = Means p × Means q
Means (either p q) = Means p ⊎ Means q
Means (implies p q) = Means p → Means q
Means (not_so p) = Means p → ⊥
Means (every_below n p) = (k : ℕ) → k < n → Means (p k)
Means (some_below n p) = (k : ℕ) × (k < n) × Means (p k)
