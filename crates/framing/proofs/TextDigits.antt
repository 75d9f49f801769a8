-- A page that has a text at a place, and numbers read back from their digits.
use mathlib.Core.Path.{◌≡◌, refl, sym, ap, subst, ◌∙◌}
use mathlib.Core.List.{List, [], ◌∷◌, ◌++◌}
use mathlib.Core.Logic.{inl, inr}
use Prim.Native.Nat.{ℕ, zero, suc, ◌+◌, ◌-◌, ◌/◌, ◌%◌, ◌^◌, ◌<◌, ◌≤◌}
use native.Mathlib.Nat.{zero-add, add_assoc, not-suc-le-zero}
use native.Mathlib.Omega.{arith}
use borrow.Author.Tests.{lt-ltb, le-ltb}
use lib.IntN.{ℤ, pos, negsuc}
use lib.ListN.{length, get_or, length-append, get_or-append}
use lib.Seq.{get_or-append-add, get_or_at}
use lib.Signed.{mag}
use Rattle.io.specs.Digits.{last_digits, hex_digit_ascii}
use Rattle.subdivision.specs.Formula.{is_equal, every_below, Means}
use Rattle.subdivision.specs.Limits.{origin}
use Rattle.theory.proofs.Decide.{means}
use Rattle.frames.specs.Digits.{highest_word, is_digit, digit_value, number, signed_of, word_of}
use Rattle.frames.specs.Lines.{newline}

-- ---- a text on a page

-- the page has this text at this place
pub record Has (page : List ℕ) (at : ℕ) (text : List ℕ) : Type 0 where
  pub within : at + length text ≤ length page
  pub same : (i : ℕ) → i < length text → get_or page (at + i) 0 ≡ get_or text i 0

-- a page has itself at its start
pub has_itself : (page : List ℕ) → Has page 0 page
has_itself page = record { within = omega arith; same = λ i h. rw zero-add }

module _ {page : List ℕ} {at : ℕ} (a b : List ℕ) (has : Has page at (a ++ b)) where
  -- a page that has two texts one after the other has the first
  pub has_front : Has page at a
  has_front =
      let long = length-append a b in
      record { within = omega (arith, has.within); same = λ i h. has.same i (omega arith) ∙ get_or-append a b 0 i h }

  -- it has the second past the first
  pub has_back : Has page (at + length a) b
  has_back = record { within = omega (arith, has.within, long); same = λ i h. rw (add_assoc at (length a) i) (past i h) }
    where
      long : length (a ++ b) ≡ length a + length b
      long = length-append a b

      past : (i : ℕ) → i < length b → get_or page (at + (length a + i)) 0 ≡ get_or b i 0
      past i h = has.same (length a + i) (omega (arith, long)) ∙ get_or-append-add a b i 0

-- ---- digits as bytes

-- a digit is read as its value
pub glyph_value : (d : ℕ) → d < 16 → digit_value (hex_digit_ascii d) ≡ d
glyph_value = means (every_below 16 (λ d. is_equal (digit_value (hex_digit_ascii d)) d)) refl

-- a digit is written as a digit
pub glyph_is_digit : (d : ℕ) → d < 16 → Means (is_digit (hex_digit_ascii d))
glyph_is_digit = means (every_below 16 (λ d. is_digit (hex_digit_ascii d))) refl

-- a byte that is a digit is no newline
pub digit_no_newline : (b : ℕ) → Means (is_digit b) → b ≡ newline → ⊥
digit_no_newline b (inl h) e = omega arith
digit_no_newline b (inr h) e = omega arith

-- k digits are k bytes
pub length_digits : (b k v : ℕ) → length (last_digits b k v) ≡ k
length_digits b zero v = refl
length_digits b (suc k) v = omega (arith, length-append (last_digits b k (v / b)) (hex_digit_ascii (v % b) ∷ []), length_digits b k (v / b))

-- every byte of the text is a digit
abbrev pub AllDigits : List ℕ → Type 0
AllDigits text = (i : ℕ) → i < length text → Means (is_digit (get_or text i 0))

-- an empty text is of digits
pub all_digits_none : AllDigits []
all_digits_none i h = absurd (not-suc-le-zero h)

-- a digit alone is a text of digits
all_digits_one : (d : ℕ) → d < 16 → AllDigits (hex_digit_ascii d ∷ [])
all_digits_one d h zero l = glyph_is_digit d h
all_digits_one d h (suc i) l = absurd (omega arith)

-- two texts of digits, one after the other, are one
pub all_digits_append : (a b : List ℕ) → AllDigits a → AllDigits b → AllDigits (a ++ b)
all_digits_append [] b f g i h = g i h
all_digits_append (x ∷ a) b f g zero h = f zero (omega arith)
all_digits_append (x ∷ a) b f g (suc i) h = all_digits_append a b (λ j l. f (suc j) (omega arith)) g i (omega arith)

-- every byte of a number's digits is a digit
pub all_digits : (k v : ℕ) → AllDigits (last_digits 16 k v)
all_digits zero v = all_digits_none
all_digits (suc k) v =
    all_digits_append (last_digits 16 k (v / 16)) (hex_digit_ascii (v % 16) ∷ []) (all_digits k (v / 16)) (all_digits_one (v % 16) (omega arith))

-- the bytes of a page that has a text of digits are digits
pub has_digits : {page : List ℕ} {at : ℕ} {text : List ℕ} → Has page at text → AllDigits text
    → (i : ℕ) → i < length text → Means (is_digit (get_or page (at + i) 0))
has_digits has all i h = subst (λ (b : ℕ). Means (is_digit b)) (sym (has.same i h)) (all i h)

-- ---- numbers read back

-- k digits of a number that they hold are read as the number
pub number_reads : (page : List ℕ) (at k v : ℕ) → Has page at (last_digits 16 k v) → v < 16 ^ k → number page at k ≡ v
number_reads page at zero v has small = omega arith
number_reads page at (suc k) v has small = joined (number_reads page at k (v / 16) (has_front front last has) (omega arith))
  where
    front : List ℕ
    front = last_digits 16 k (v / 16)

    last : List ℕ
    last = hex_digit_ascii (v % 16) ∷ []

    byte : get_or page (at + k) 0 ≡ hex_digit_ascii (v % 16)
    byte = has.same k (omega (arith, length_digits 16 (suc k) v)) ∙ get_or_at front (hex_digit_ascii (v % 16)) [] 0 k (length_digits 16 k (v / 16))

    digit : digit_value (get_or page (at + k) 0) ≡ v % 16
    digit = ap digit_value byte ∙ glyph_value (v % 16) (omega arith)

    joined : number page at k ≡ v / 16 → number page at (suc k) ≡ v
    joined rest = omega (arith, digit)

-- a signed number is read back from its four bytes
pub signed_word : (z : ℤ) → mag z < origin → signed_of (word_of z) ≡ z
signed_word (pos n) h = rw (lt-ltb n origin h, signed_of)
signed_word (negsuc n) h =
    let high : origin ≤ highest_word - n = omega arith in
    let back : highest_word - (highest_word - n) ≡ n = omega arith in
    rw (le-ltb (highest_word - n) origin high, signed_of) (ap negsuc back)

-- a signed number is of four bytes
pub word_fits : (z : ℤ) → mag z < origin → word_of z < 4294967296
word_fits (pos n) h = omega arith
word_fits (negsuc n) h = omega arith
