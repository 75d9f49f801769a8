-- Good lines as text: each is the frame of the numbers that it holds.
use mathlib.Core.Path.{◌≡◌, refl, sym, ap₂, ◌∙◌}
use mathlib.Core.List.{List, [], ◌∷◌, ◌++◌, append_assoc}
use Prim.Native.Nat.{ℕ, zero, suc, ◌+◌, ◌*◌, ◌<◌, ◌≤◌}
use native.Mathlib.Nat.{add_assoc, mul-zero, mul-suc}
use native.Mathlib.Omega.{arith}
use lib.ListN.{get_or}
use Rattle.io.specs.Digits.{last_digits}
use Rattle.subdivision.specs.Formula.{Means}
use Rattle.subdivision.specs.Lists.{tab_from}
use Rattle.frames.specs.Digits.{is_digit}
use Rattle.frames.specs.Lines.{newline, numbers_of, frame_length, line_start, kind_at, number_at}
use Rattle.frames.specs.Pages.{number_of, wanted_kind, is_good, GoodBefore}
use Rattle.frames.specs.Texts.{numbers_text, frame_text, frames_text}
use Rattle.framing.proofs.Slices.{slice_of, slice_join}
use Rattle.framing.proofs.ReadDigits.{number_text}
use Rattle.framing.proofs.LineLayout.{good_kind, good_digits, good_newline, run_start}

module _ (page : List ℕ) (at length : ℕ) (hexadecimal : (j : ℕ) → j < length → Means (is_digit (get_or page (at + j) 0))) where
  -- the first two digits of a line are the text of its kind
  kind_text : 2 ≤ length → last_digits 16 2 (kind_at page at) ≡ slice_of page 2 at
  kind_text h = number_text page at 2 (λ j l. hexadecimal j (omega arith))

  -- eight digits of a line are the text of its number i
  word_text : (i : ℕ) → 2 + 8 * suc i ≤ length → last_digits 16 8 (number_at page at i) ≡ slice_of page 8 (at + (2 + 8 * i))
  word_text i h =
      number_text page (at + (2 + 8 * i)) 8 (λ j l. rw (add_assoc at (2 + 8 * i) j) (hexadecimal (2 + 8 * i + j) (omega arith)))

  -- the digits of a line from number i on are the text of its next n numbers
  numbers_text_lem : (n i : ℕ) → 2 + 8 * (i + n) ≤ length
      → numbers_text (tab_from (number_at page at) n i) ≡ slice_of page (8 * n) (at + (2 + 8 * i))
  numbers_text_lem zero i h = refl
  numbers_text_lem (suc n) i h =
      let more : 8 * suc n ≡ 8 + 8 * n = omega arith in
      let next : at + (2 + 8 * i) + 8 ≡ at + (2 + 8 * suc i) = omega arith in
      ap₂ ◌++◌ (word_text i (omega arith)) (numbers_text_lem n (suc i) (omega arith)) ∙ rw (more, slice_join page, next)

-- as many digits as a kind has, of which the first two say it, and a newline are a frame of that kind
frame_slice : (page : List ℕ) (at kind : ℕ) → ((j : ℕ) → j < frame_length kind → Means (is_digit (get_or page (at + j) 0)))
    → kind_at page at ≡ kind → get_or page (at + frame_length kind) 0 ≡ newline
    → slice_of page (frame_length kind + 1) at ≡ frame_text kind (tab_from (number_at page at) (numbers_of kind) 0)
frame_slice page at kind hexadecimal says ends =
    slice_join page (frame_length kind) 1 at
    ∙ ap₂ (λ front b. front ++ (b ∷ [])) (slice_join page 2 (8 * numbers_of kind) at ∙ sym (ap₂ ◌++◌ first numbers)) ends
    ∙ append_assoc (last_digits 16 2 kind) (numbers_text (tab_from (number_at page at) (numbers_of kind) 0)) (newline ∷ [])
  where
    first : last_digits 16 2 kind ≡ slice_of page 2 at
    first = rw says at (kind_text page at (frame_length kind) hexadecimal (omega arith))

    numbers : numbers_text (tab_from (number_at page at) (numbers_of kind) 0) ≡ slice_of page (8 * numbers_of kind) (at + 2)
    numbers = numbers_text_lem page at (frame_length kind) hexadecimal (numbers_of kind) 0 (omega arith)

module _ (page : List ℕ) where
  -- the numbers of line k, as many as a frame of a kind has
  abbrev pub line_numbers : ℕ → ℕ → List ℕ
  line_numbers kind k = tab_from (number_of page k) (numbers_of kind) 0

  -- a good line with its newline is the frame of its numbers
  pub line_text : (k : ℕ) → Means (is_good page k)
      → slice_of page (frame_length (wanted_kind page k) + 1) (line_start page k)
      ≡ frame_text (wanted_kind page k) (line_numbers (wanted_kind page k) k)
  line_text k good =
      frame_slice page (line_start page k) (wanted_kind page k) (good_digits page k good) (good_kind page k good) (good_newline page k good)

  -- so many good lines of one kind are the frames of their numbers
  pub run_text : (first kind count : ℕ) → ((i : ℕ) → i < count → wanted_kind page (first + i) ≡ kind) → GoodBefore page (first + count)
      → slice_of page ((frame_length kind + 1) * count) (line_start page first) ≡ frames_text kind (λ i. line_numbers kind (first + i)) count
  run_text first kind zero wanted good = rw mul-zero
  run_text first kind (suc count) wanted good =
      let before = run_text first kind count (λ i h. wanted i (omega arith)) (λ i h. good i (omega arith)) in
      let start = run_start page first kind count (λ i h. wanted i (omega arith)) (λ i h. good i (omega arith)) in
      let last = line_text (first + count) (good (first + count) (omega arith)) in
      rw (mul-suc, slice_join page, ← start) (ap₂ ◌++◌ before (rw (wanted count (omega arith)) at last))
