-- One number against another as a side: which side it is.
use mathlib.Core.Path.{◌≡◌, subst, sym}
use Prim.Native.Nat.{ℕ, ◌≤◌, ◌<◌}
use native.Mathlib.Decide.{dec_le}
use native.Mathlib.Nat.{le_of_lt}
use native.Mathlib.Omega.{arith}
use borrow.Author.Tests.{lt-ltb, le-ltb}
use Rattle.subdivision.specs.declared.Side.{Side}
use Rattle.subdivision.specs.declared.Side.TheVariants.{Below, On, Above}
use Rattle.subdivision.specs.Lines.{side_of}

pub side_below : (p q : ℕ) → p < q → side_of p q ≡ Below
side_below p q h = rw (lt-ltb p q h, side_of)

pub side_above : (p q : ℕ) → q < p → side_of p q ≡ Above
side_above p q h = rw (le-ltb p q (le_of_lt h), side_of) (rw (lt-ltb q p h))

pub side_on : (p q : ℕ) → p ≡ q → side_of p q ≡ On
side_on p q h = rw (le-ltb p q (omega arith), side_of) (rw (le-ltb q p (omega arith)))

-- what holds at each side in turn holds of the side of two numbers
pub by_side : (P : Side → Type 0) (p q : ℕ) → (p < q → P Below) → (p ≡ q → P On) → (q < p → P Above) → P (side_of p q)
by_side P p q f g h = go (dec_le q p) (dec_le p q)
  where
    go : Dec (q ≤ p) → Dec (p ≤ q) → P (side_of p q)
    go (no m) n = let k : p < q = omega arith in rw (side_below p q k) (f k)
    go (yes m) (yes n) = let k : p ≡ q = omega arith in rw (side_on p q k) (g k)
    go (yes m) (no n) = let k : q < p = omega arith in rw (side_above p q k) (h k)

-- the first number is below the second, equal to it or above it
abbrev pub Stands : Side → ℕ → ℕ → Type 0
Stands Below p q = p < q
Stands On p q = p ≡ q
Stands Above p q = q < p

-- what a side says of the two numbers that it compares
pub side_stands : (p q : ℕ) {s : Side} → s ≡ side_of p q → Stands s p q
side_stands p q e = subst (λ s. Stands s p q) (sym e) (by_side (λ s. Stands s p q) p q (λ h. h) (λ h. h) (λ h. h))
