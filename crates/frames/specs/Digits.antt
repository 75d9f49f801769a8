-- Numbers as hexadecimal digits: document 02, P1, "each number is four bytes, high byte first, signed ones in two's complement".
use Rattle.std.specs.Prelude.{true, false, List, ℕ, zero, suc, ◌+◌, ◌-◌, ◌*◌, ◌%◌, leb, ltb, ℤ, pos, negsuc, get_or}
use Rattle.subdivision.specs.Limits.{origin}
use Rattle.subdivision.specs.Formula.{Formula, is_at_most, both, either}

-- the highest number of four bytes
abbrev pub highest_word : ℕ
highest_word = 4294967295

-- a byte that is a lower-case hexadecimal digit: `0` to `9`, or `a` to `f`
abbrev pub is_digit : ℕ → Formula
is_digit b = either (both (is_at_most 48 b) (is_at_most b 57)) (both (is_at_most 97 b) (is_at_most b 102))

-- the value of a digit; of a byte that is none, some number below 16
abbrev pub digit_value : ℕ → ℕ
digit_value b = elim (leb b 57) [ true ↦ b % 16 | false ↦ (b + 9) % 16 ]

-- the number that so many digits from a place on make, the highest first
abbrev pub number : List ℕ → ℕ → ℕ → ℕ
number page at zero = 0
number page at (suc count) = 16 * number page at count + digit_value (get_or page (at + count) 0)

-- the signed number that four bytes make in two's complement
abbrev pub signed_of : ℕ → ℤ
signed_of w = elim (ltb w origin) [ true ↦ pos w | false ↦ negsuc (highest_word - w) ]

-- the four bytes of a signed number in two's complement
abbrev pub word_of : ℤ → ℕ
word_of (pos n) = n
word_of (negsuc n) = highest_word - n
