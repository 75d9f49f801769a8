-- Laws of the lines of answers: how they are written, and how long they are.
use mathlib.Core.Path.{◌≡◌, ap, ◌∙◌}
use mathlib.Core.List.{List, [], ◌∷◌, ◌++◌, append_assoc}
use Prim.Native.Nat.{ℕ, suc, ◌+◌, ◌^◌, ◌<◌, ◌≤◌}
use native.Mathlib.Omega.{arith}
use borrow.Author.Tests.{lt-ltb}
use lib.Dec.{ltb}
use lib.ListN.{length, length-append}
use Rattle.subdivision.specs.Lists.{over}
use Rattle.subdivision.specs.Lowest.{lowest}
use Rattle.frames.specs.Lines.{newline}
use Rattle.frames.specs.Placing.{decimal, refused_word, numbered, refused_text}
use Rattle.theory.proofs.Lowest.{lowest_at_most}
use Rattle.theory.proofs.Written.{over_more}
use Rattle.framing.proofs.TextDigits.{length_digits}

-- a number below a power of ten has no more digits than its exponent
pub decimal_short : (n k : ℕ) → n < 10 ^ suc k → length (decimal n) ≤ suc k
unfolding decimal
decimal_short n k h =
    omega (arith, length_digits 10 (suc (lowest (λ j. ltb n (10 ^ suc j)) n)) n, lowest_at_most (λ j. ltb n (10 ^ suc j)) n k (lt-ltb n (10 ^ suc k) h))

-- how long a numbered line is
pub numbered_long : (word : List ℕ) (n : ℕ) → length (numbered word n) ≡ length word + length (decimal n) + 1
numbered_long word n = omega (arith, length-append word (decimal n ++ (newline ∷ [])), length-append (decimal n) (newline ∷ []))

-- how long the line of a refusal is
pub refused_long : (number item : ℕ) → length (refused_text number item) ≡ 10 + length (decimal number) + length (decimal item)
refused_long number item =
    omega (arith, length-append refused_word (decimal number ++ numbered (32 ∷ []) item), length-append (decimal number) (numbered (32 ∷ []) item), numbered_long (32 ∷ []) item)

-- a word, a number and a newline, written one after the other
pub numbered_written : (word : List ℕ) (n : ℕ) (text : List ℕ) (at next last : ℕ) → at ≤ length text → next ≡ at + length word → last ≡ next + length (decimal n)
    → over (newline ∷ []) (over (decimal n) (over word text at) next) last ≡ over (numbered word n) text at
numbered_written word n text at next last h e f =
    ap (λ w. over (newline ∷ []) w last) (over_more word (decimal n) text at next h e)
    ∙ over_more (word ++ decimal n) (newline ∷ []) text at last h (omega (arith, e, f, length-append word (decimal n)))
    ∙ ap (λ w. over w text at) (append_assoc word (decimal n) (newline ∷ []))

-- a refusal's word, its number, and a blank and the item, written one after the other
pub refused_written : (number item : ℕ) (text : List ℕ) (at next last : ℕ) → at ≤ length text → next ≡ at + length refused_word → last ≡ next + length (decimal number)
    → over (numbered (32 ∷ []) item) (over (decimal number) (over refused_word text at) next) last ≡ over (refused_text number item) text at
refused_written number item text at next last h e f =
    ap (λ w. over (numbered (32 ∷ []) item) w last) (over_more refused_word (decimal number) text at next h e)
    ∙ over_more (refused_word ++ decimal number) (numbered (32 ∷ []) item) text at last h (omega (arith, e, f, length-append refused_word (decimal number)))
    ∙ ap (λ w. over w text at) (append_assoc refused_word (decimal number) (numbered (32 ∷ []) item))
