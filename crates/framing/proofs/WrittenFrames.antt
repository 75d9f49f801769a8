-- Laws of frames written one after another.
use mathlib.Core.Path.{◌≡◌, refl, sym, ap, ◌∙◌}
use mathlib.Core.List.{List, [], ◌∷◌, ◌++◌, append_assoc, append-nil}
use Prim.Native.Nat.{ℕ, ◌+◌, ◌*◌, ◌<◌, ◌≤◌}
use native.Mathlib.Numerals.{add-one}
use native.Mathlib.Omega.{arith}
use lib.ListN.{length, get_or, take, length-append}
use lib.Seq.{take-suc, length-take-le}
use Rattle.io.specs.Digits.{last_digits}
use Rattle.subdivision.specs.Lists.{over}
use Rattle.frames.specs.Lines.{newline}
use Rattle.frames.specs.Texts.{numbers_text, frame_text, frames_text}
use Rattle.theory.proofs.Written.{over_none, over_more, length_over}
use Rattle.framing.proofs.TextDigits.{length_digits}
use Rattle.framing.proofs.FrameLengths.{length_numbers, frames_long}

-- the text of numbers, and of more of them
numbers_join : (a b : List ℕ) → numbers_text (a ++ b) ≡ numbers_text a ++ numbers_text b
numbers_join [] b = refl
numbers_join (w ∷ ws) b = ap (λ l. last_digits 16 8 w ++ l) (numbers_join ws b) ∙ sym (append_assoc (last_digits 16 8 w) (numbers_text ws) (numbers_text b))

-- no numbers are written at the start
pub numbers_start : (ns text : List ℕ) (at : ℕ) → text ≡ over (numbers_text (take 0 ns)) text at
numbers_start ns text at = over_none text at

-- the next number is written after those before it
pub numbers_next : (ns text : List ℕ) (at i : ℕ) → at ≤ length text → i < length ns
    → over (last_digits 16 8 (get_or ns i 0)) (over (numbers_text (take i ns)) text at) (at + 8 * i) ≡ over (numbers_text (take (i + 1) ns)) text at
numbers_next ns text at i h l =
    let before = numbers_text (take i ns) in
    let long : at + 8 * i ≡ at + length before = omega (arith, length_numbers (take i ns), length-take-le i ns (omega arith)) in
    over_more before (last_digits 16 8 (get_or ns i 0)) text at (at + 8 * i) h long ∙ ap (λ w. over w text at) (sym more)
  where
    more : numbers_text (take (i + 1) ns) ≡ numbers_text (take i ns) ++ last_digits 16 8 (get_or ns i 0)
    more =
        rw (add-one i, take-suc ns i 0 l, numbers_join (take i ns) (get_or ns i 0 ∷ []))
        (ap (λ w. numbers_text (take i ns) ++ w) (append-nil (last_digits 16 8 (get_or ns i 0))))

-- a text with room is as long after numbers were written over it
pub numbers_within : (ns text : List ℕ) (at i : ℕ) → i ≤ length ns → at + 8 * i ≤ length text → length (over (numbers_text (take i ns)) text at) ≡ length text
numbers_within ns text at i l h = length_over (numbers_text (take i ns)) text at (omega (arith, length_numbers (take i ns), length-take-le i ns l))

-- a frame is its kind, its numbers and a newline, one after the other
pub frame_written : (kind : ℕ) (ns text : List ℕ) (at next last : ℕ) → at ≤ length text → next ≡ at + 2 → last ≡ next + 8 * length ns
    → over (newline ∷ []) (over (numbers_text ns) (over (last_digits 16 2 kind) text at) next) last ≡ over (frame_text kind ns) text at
frame_written kind ns text at next last h e f =
    let two = length_digits 16 2 kind in
    ap (λ w. over (newline ∷ []) w last) (over_more (last_digits 16 2 kind) (numbers_text ns) text at next h (omega (arith, two, e)))
    ∙ over_more (last_digits 16 2 kind ++ numbers_text ns) (newline ∷ []) text at last h (omega (arith, e, f, two, length_numbers ns, length-append (last_digits 16 2 kind) (numbers_text ns)))
    ∙ ap (λ w. over w text at) (append_assoc (last_digits 16 2 kind) (numbers_text ns) (newline ∷ []))

module _ (kind n : ℕ) (numbers : ℕ → List ℕ) (long : (i : ℕ) → length (numbers i) ≡ n) where
  -- no frames are written at the start
  pub frames_start : (text : List ℕ) (at : ℕ) → text ≡ over (frames_text kind numbers 0) text at
  frames_start text at = over_none text at

  -- the next frame is written after those before it
  pub frames_next : (text : List ℕ) (at next i : ℕ) → at ≤ length text → next ≡ at + (3 + 8 * n) * i
      → over (frame_text kind (numbers i)) (over (frames_text kind numbers i) text at) next ≡ over (frames_text kind numbers (i + 1)) text at
  frames_next text at next i h e =
      rw (add-one i) (over_more (frames_text kind numbers i) (frame_text kind (numbers i)) text at next h (omega (arith, e, frames_long kind n numbers long i)))

  -- a text with room is as long after frames were written over it
  pub frames_within : (text : List ℕ) (at count : ℕ) → at + (3 + 8 * n) * count ≤ length text → length (over (frames_text kind numbers count) text at) ≡ length text
  frames_within text at count h = length_over (frames_text kind numbers count) text at (omega (arith, frames_long kind n numbers long count))
