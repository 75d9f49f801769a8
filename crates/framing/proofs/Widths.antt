-- Laws of how many digits hold a number.
use mathlib.Core.Path.{◌≡◌, sym, ap, ◌∙◌}
use Prim.Native.Nat.{ℕ, zero, suc, ◌+◌, ◌-◌, ◌*◌, ◌^◌, ◌<◌, ◌≤◌}
use native.Mathlib.Nat.{one-le-pow, mul-le-mul_left, pow-suc, zero-lt-suc}
use native.Mathlib.Omega.{arith}
use borrow.Author.Tests.{lt-ltb, le-ltb}
use mathlib.Core.Bool.{true, false}
use native.Mathlib.Decide.{dec_le}
use lib.Dec.{ltb}
use lib.Pow.{pow-add}
use Rattle.io.specs.Digits.{IsDigitCount}
use Rattle.subdivision.specs.Lowest.{lowest}
use Rattle.theory.proofs.Lowest.{is_lowest_lem}

-- a power grows with its exponent
pub pow_grows : (b k j : ℕ) → 0 < b → k ≤ j → b ^ k ≤ b ^ j
pow_grows b k j h l =
    let all : k + (j - k) ≡ j = omega arith in
    let split : b ^ j ≡ b ^ k * b ^ (j - k) = ap (λ n. b ^ n) (sym all) ∙ pow-add b k (j - k) in
    omega (arith, split, mul-le-mul_left (b ^ k) (one-le-pow (j - k) b h))

-- a number that so many digits hold takes no more
pub width_fixed : (b w n r : ℕ) → 0 < b → IsDigitCount b w n r → n < b ^ w → r ≡ w
width_fixed b w n r h f l = omega (arith, f.0, not_more)
  where
    not_more : ¬ (w < r)
    not_more m = omega (arith, f.2 m, pow_grows b w (r - 1) h (omega arith))

-- a power of ten is above its exponent
pow_above : (k : ℕ) → k < 10 ^ k
pow_above zero = zero-lt-suc 0
pow_above (suc k) = rw (pow-suc 10 k) (omega (arith, pow_above k))

-- the fewest decimal digits that hold a number
pub decimal_width : (n r : ℕ) → IsDigitCount 10 1 n r → r ≡ suc (lowest (λ k. ltb n (10 ^ suc k)) n)
decimal_width n r f =
    let least = is_lowest_lem {test = λ k. ltb n (10 ^ suc k)} {n = n} {r = r - 1} (record { within = within; before = before; passes = λ l. passes }) in
    omega (arith, f.0, least)
  where
    -- more than one digit is not too many
    full : 1 < r → 10 ^ (r - 1) ≤ n
    full = f.2

    within : r - 1 ≤ n
    within = go (dec_le r 1)
      where
        go : Dec (r ≤ 1) → r - 1 ≤ n
        go (yes l) = omega arith
        go (no l) = omega (arith, full (omega arith), pow_above (r - 1))

    before : (k : ℕ) → k < r - 1 → ltb n (10 ^ suc k) ≡ false
    before k h = le-ltb n (10 ^ suc k) (omega (arith, full (omega arith), pow_grows 10 (suc k) (r - 1) (zero-lt-suc 9) (omega arith)))

    passes : ltb n (10 ^ suc (r - 1)) ≡ true
    passes = let same : suc (r - 1) ≡ r = omega (arith, f.0) in lt-ltb n (10 ^ suc (r - 1)) (rw same f.1)
