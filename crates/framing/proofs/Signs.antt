-- Laws of two's complement: the machine's reading of a word, and a signed number's word from its shifted form.
use mathlib.Core.Path.{◌≡◌, ap, ◌∙◌}
use mathlib.Core.Bool.{true, false}
use mathlib.Core.Logic.{⊎_elim}
use Prim.Native.Nat.{ℕ, suc, ◌+◌, ◌-◌, ◌<◌, ◌≤◌, ◌^◌}
use native.Mathlib.Omega.{arith}
use borrow.Author.Rules.{sfits_of}
use borrow.Author.Tests.{ltb-true, ltb-false, lt-ltb, le-ltb}
use lib.Dec.{ltb}
use lib.IntN.{ℤ, pos, negsuc}
use lib.Signed.{mag}
use mir.Syntax.{w32}
use mir.Val.{to_z, of_z}
use mir.Facts.{to_z-of_z}
use Rattle.subdivision.specs.Limits.{origin}
use Rattle.subdivision.specs.Sheet.{shifted}
use Rattle.frames.specs.Digits.{highest_word, signed_of, word_of}
use Rattle.theory.proofs.Decide.{true_or_false}

-- a word below the middle is its own number
pub signed_low : (w : ℕ) → w < origin → to_z w32 w ≡ signed_of w
signed_low w h = rw (lt-ltb w origin h, to_z, signed_of)

-- a word from the middle on is negative
pub signed_high : (w : ℕ) → origin ≤ w → to_z w32 w ≡ signed_of w
signed_high w h =
    let same : 2 ^ 32 - suc w ≡ highest_word - w = omega arith in
    rw (le-ltb w origin h, to_z, signed_of) (ap negsuc same)

-- the word of a number below zero, from its shifted form
pub word_low : (z : ℤ) → mag z < origin → shifted z < origin → shifted z + origin ≡ word_of z
word_low (pos n) m h = omega arith
word_low (negsuc n) m h = omega arith

-- the word of a number from zero on, from its shifted form
pub word_high : (z : ℤ) → mag z < origin → origin ≤ shifted z → shifted z - origin ≡ word_of z
word_high (pos n) m h = omega arith
word_high (negsuc n) m h = omega arith

-- what four bytes make is a signed number of four bytes
pub signed_fits : (w : ℕ) → w < 4294967296 → mag (signed_of w) < origin
signed_fits w h = ⊎_elim low high (true_or_false (ltb w origin))
  where
    low : ltb w origin ≡ true → mag (signed_of w) < origin
    low e = rw (e, signed_of) (ltb-true w origin e)

    high : ltb w origin ≡ false → mag (signed_of w) < origin
    high e = let from = ltb-false w origin e in rw (e, signed_of) (omega arith)

-- a signed number of four bytes is kept as it is
pub signed_kept : (w : ℕ) (z : ℤ) → w < 4294967296 → z ≡ signed_of w → to_z w32 (of_z w32 z) ≡ signed_of w
signed_kept w z h e = let fits : mag z < 2147483648 = rw e (signed_fits w h) in to_z-of_z {w = w32} {z = z} (sfits_of fits) ∙ e
