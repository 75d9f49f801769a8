-- Digits as they are read: the numbers that they make, and the text of those numbers.
use mathlib.Core.Path.{◌≡◌, refl, sym, ap₂, ◌∙◌}
use mathlib.Core.Bool.{Bool, true, false}
use mathlib.Core.List.{List, [], ◌∷◌, ◌++◌}
use mathlib.Core.Logic.{inl, inr}
use Prim.Native.Nat.{ℕ, zero, suc, ◌+◌, ◌-◌, ◌*◌, ◌/◌, ◌%◌, ◌^◌, ◌<◌, ◌≤◌}
use native.Mathlib.Nat.{pow-suc}
use native.Mathlib.Omega.{arith}
use borrow.Author.Tests.{lt-ltb, le-ltb, le-leb, lt-leb}
use lib.Dec.{leb, ltb}
use lib.IntN.{pos, negsuc}
use lib.ListN.{get_or}
use Rattle.io.specs.Digits.{last_digits, hex_digit_ascii}
use Rattle.subdivision.specs.Limits.{origin}
use Rattle.subdivision.specs.Formula.{Means}
use Rattle.frames.specs.Digits.{highest_word, is_digit, digit_value, number, signed_of, word_of}
use Rattle.framing.proofs.Slices.{slice_of, slice_more}

-- a digit's value is below 16
pub digit_below : (b : ℕ) → digit_value b < 16
digit_below b = go (leb b 57)
  where
    go : (low : Bool) → (elim low [ true ↦ b % 16 | false ↦ (b + 9) % 16 ]) < 16
    go true = omega arith
    go false = omega arith

-- a number of so many digits is below that power of 16
pub number_below : (page : List ℕ) (at count : ℕ) → number page at count < 16 ^ count
number_below page at zero = omega arith
number_below page at (suc count) =
    omega (arith, pow-suc 16 count, number_below page at count, digit_below (get_or page (at + count) 0))

-- a number of eight digits is below 2 to the power 32
pub word_below : (page : List ℕ) (at : ℕ) → number page at 8 < 4294967296
word_below page at = number_below page at 8

-- a number of eight digits is one of four bytes
pub word_within : (page : List ℕ) (at : ℕ) → number page at 8 ≤ highest_word
word_within page at = omega (arith, word_below page at)

-- a digit is the glyph of its value
pub glyph_of_digit : (b : ℕ) → Means (is_digit b) → hex_digit_ascii (digit_value b) ≡ b
glyph_of_digit b (inl h) =
    let low : leb b 57 ≡ true = le-leb b 57 h.1 in
    let numeral : ltb (b % 16) 10 ≡ true = lt-ltb (b % 16) 10 (omega arith) in
    rw (low, digit_value) (rw (numeral, hex_digit_ascii) (omega arith))
glyph_of_digit b (inr h) =
    let high : leb b 57 ≡ false = lt-leb b 57 (omega arith) in
    let letter : ltb ((b + 9) % 16) 10 ≡ false = le-ltb ((b + 9) % 16) 10 (omega arith) in
    rw (high, digit_value) (rw (letter, hex_digit_ascii) (omega arith))

-- a number's last digit ends its text
digits_more : (count n d : ℕ) → d < 16 → last_digits 16 (suc count) (16 * n + d) ≡ last_digits 16 count n ++ (hex_digit_ascii d ∷ [])
digits_more count n d h =
    let front : (16 * n + d) / 16 ≡ n = omega arith in
    let last : (16 * n + d) % 16 ≡ d = omega arith in
    rw (front, last)

-- digits are the text of the number that they make
pub number_text : (page : List ℕ) (at count : ℕ) → ((i : ℕ) → i < count → Means (is_digit (get_or page (at + i) 0)))
    → last_digits 16 count (number page at count) ≡ slice_of page count at
number_text page at zero good = refl
number_text page at (suc count) good =
    let before = number_text page at count (λ i h. good i (omega arith)) in
    let ends = glyph_of_digit last (good count (omega arith)) in
    digits_more count (number page at count) (digit_value last) (digit_below last)
    ∙ ap₂ (λ front b. front ++ (b ∷ [])) before ends
    ∙ sym (slice_more page count at)
  where
    last : ℕ
    last = get_or page (at + count) 0

-- a number of four bytes comes back from the signed number that it stands for
pub word_of_signed : (w : ℕ) → w ≤ highest_word → word_of (signed_of w) ≡ w
word_of_signed w h = go (ltb w origin)
  where
    go : (low : Bool) → word_of (elim low [ true ↦ pos w | false ↦ negsuc (highest_word - w) ]) ≡ w
    go true = refl
    go false = omega arith
