-- The text of a frame, and of frames one after another: how long it is, and that a page that has it reads the frames back.
use mathlib.Core.Path.{◌≡◌, sym, ap, subst, ◌∙◌}
use mathlib.Core.List.{List, [], ◌∷◌, ◌++◌, append_assoc}
use mathlib.Core.Logic.{⊎_elim}
use Prim.Native.Nat.{ℕ, zero, suc, ◌+◌, ◌-◌, ◌*◌, ◌<◌, ◌≤◌}
use native.Mathlib.Nat.{add-zero, add-suc, add_assoc, not-suc-le-zero, add-sub_cancel_left}
use native.Mathlib.Omega.{arith}
use lib.ListN.{length, get_or, length-append}
use Rattle.io.specs.Digits.{last_digits}
use Rattle.subdivision.specs.Formula.{Means}
use Rattle.theory.proofs.Decide.{below_suc}
use Rattle.frames.specs.Digits.{is_digit, number}
use Rattle.frames.specs.Lines.{newline, numbers_of, frame_length, line_end, line_start, kind_at, number_at, is_frame}
use Rattle.frames.specs.Texts.{numbers_text, frame_text, frames_text}
use Rattle.framing.proofs.FrameLengths.{length_numbers, frame_long, frames_long}
use Rattle.framing.proofs.LineEnds.{line_end_first}
use Rattle.framing.proofs.TextDigits.{Has, has_front, has_back, has_digits, digit_no_newline, length_digits, number_reads}
use Rattle.framing.proofs.TextDigits.{AllDigits, all_digits_none, all_digits_append, all_digits}

-- ---- lengths

-- a frame as text, without its newline
abbrev pub frame_digits : ℕ → List ℕ → List ℕ
frame_digits kind ws = last_digits 16 2 kind ++ numbers_text ws

-- a frame as text is its digits and a newline
frame_splits : (kind : ℕ) (ws : List ℕ) → frame_text kind ws ≡ frame_digits kind ws ++ (newline ∷ [])
frame_splits kind ws = sym (append_assoc (last_digits 16 2 kind) (numbers_text ws) (newline ∷ []))

-- a frame's digits are as many as its length says
length_frame_digits : (kind : ℕ) (ws : List ℕ) → length ws ≡ numbers_of kind → length (frame_digits kind ws) ≡ frame_length kind
length_frame_digits kind ws long =
    omega (arith, length-append (last_digits 16 2 kind) (numbers_text ws), length_digits 16 2 kind, length_numbers ws)

-- a frame as text is one byte longer
pub length_frame : (kind : ℕ) (ws : List ℕ) → length ws ≡ numbers_of kind → length (frame_text kind ws) ≡ frame_length kind + 1
length_frame kind ws long = omega (arith, frame_long kind ws, long)

-- frames one after another are so many times that
pub length_frames : (kind : ℕ) (numbers : ℕ → List ℕ) (count : ℕ) → ((i : ℕ) → length (numbers i) ≡ numbers_of kind)
    → length (frames_text kind numbers count) ≡ count * (frame_length kind + 1)
length_frames kind numbers count long = omega (arith, frames_long kind (numbers_of kind) numbers long count)

-- ---- a frame read back

-- every number is of four bytes
abbrev pub AllWords : List ℕ → Type 0
AllWords [] = Unit {0}
AllWords (w ∷ ws) = (w < 4294967296) × AllWords ws

-- what is read at a place where the page has a frame
pub record FrameRead (page : List ℕ) (at kind : ℕ) (ws : List ℕ) : Type 0 where
  pub end : line_end page at ≡ at + frame_length kind
  pub whole : at + frame_length kind < length page
  pub made : Means (is_frame page at (line_end page at))
  pub kind_read : kind_at page at ≡ kind
  pub numbers_read : (i : ℕ) → i < length ws → number_at page at i ≡ get_or ws i 0

-- every byte of numbers as text is a digit
all_numbers : (ws : List ℕ) → AllDigits (numbers_text ws)
all_numbers [] = all_digits_none
all_numbers (w ∷ ws) = all_digits_append (last_digits 16 8 w) (numbers_text ws) (all_digits 8 w) (all_numbers ws)

-- numbers of four bytes are read back from their text
words_read : (page : List ℕ) (at : ℕ) (ws : List ℕ) → Has page at (numbers_text ws) → AllWords ws
    → (i : ℕ) → i < length ws → number page (at + 8 * i) 8 ≡ get_or ws i 0
words_read page at [] has fit i h = absurd (not-suc-le-zero h)
words_read page at (w ∷ ws) has fit zero h =
    ap (λ (a : ℕ). number page a 8) (add-zero at) ∙ number_reads page at 8 w (has_front (last_digits 16 8 w) (numbers_text ws) has) fit.0
words_read page at (w ∷ ws) has fit (suc i) h =
    let next : at + 8 * suc i ≡ at + 8 + 8 * i = omega arith in
    let rest = has_back (last_digits 16 8 w) (numbers_text ws) has in
    ap (λ (a : ℕ). number page a 8) next ∙ words_read page (at + 8) ws rest fit.1 i (omega arith)

module _ (page : List ℕ) (at kind : ℕ) (ws : List ℕ) (has : Has page at (frame_text kind ws)) (long : length ws ≡ numbers_of kind) where
  -- the page has the frame's digits and then the newline
  has_line : Has page at (frame_digits kind ws ++ (newline ∷ []))
  has_line = subst (Has page at) (frame_splits kind ws) has

  -- every byte of the frame is a digit
  frame_bytes : (i : ℕ) → i < frame_length kind → Means (is_digit (get_or page (at + i) 0))
  frame_bytes i h =
      has_digits (has_front (frame_digits kind ws) (newline ∷ []) has_line) all i (omega (arith, length_frame_digits kind ws long))
    where
      all : AllDigits (frame_digits kind ws)
      all = all_digits_append (last_digits 16 2 kind) (numbers_text ws) (all_digits 2 kind) (all_numbers ws)

  -- a newline follows them
  frame_newline : get_or page (at + frame_length kind) 0 ≡ newline
  frame_newline =
      let place : at + frame_length kind ≡ at + length (frame_digits kind ws) + 0 = omega (arith, length_frame_digits kind ws long) in
      ap (λ (i : ℕ). get_or page i 0) place ∙ (has_back (frame_digits kind ws) (newline ∷ []) has_line).same 0 (omega arith)

  -- it is on the page
  frame_whole : at + frame_length kind < length page
  frame_whole = omega (arith, has.within, length_frame kind ws long)

  -- the line at the frame's place ends with it
  frame_end : line_end page at ≡ at + frame_length kind
  frame_end =
      line_end_first page at (frame_length kind) frame_whole (λ i h. digit_no_newline (get_or page (at + i) 0) (frame_bytes i h)) frame_newline

  -- the line's kind is the frame's
  frame_kind : kind < 4 → kind_at page at ≡ kind
  frame_kind known = number_reads page at 2 kind (has_front (last_digits 16 2 kind) (numbers_text ws ++ (newline ∷ [])) has) (omega arith)

  -- its numbers are the frame's
  frame_numbers : AllWords ws → (i : ℕ) → i < length ws → number_at page at i ≡ get_or ws i 0
  frame_numbers fit i h =
      ap (λ (a : ℕ). number page a 8) (sym (add_assoc at 2 (8 * i)))
      ∙ words_read page (at + 2) ws (has_front (numbers_text ws) (newline ∷ []) rest) fit i h
    where
      rest : Has page (at + 2) (numbers_text ws ++ (newline ∷ []))
      rest = has_back (last_digits 16 2 kind) (numbers_text ws ++ (newline ∷ [])) has

  -- it is well made
  frame_made : kind < 4 → Means (is_frame page at (line_end page at))
  frame_made known =
      subst (λ (end : ℕ). Means (is_frame page at end)) (sym frame_end)
      (bytes, (subst (λ (k : ℕ). k < 4) same known, add-sub_cancel_left at (frame_length kind) ∙ ap frame_length same))
    where
      same : kind ≡ kind_at page at
      same = sym (frame_kind known)

      bytes : (i : ℕ) → i < at + frame_length kind - at → Means (is_digit (get_or page (at + i) 0))
      bytes i h = frame_bytes i (rw add-sub_cancel_left at h)

-- a page that has a frame's text reads the frame back
pub frame_reads : {page : List ℕ} {at kind : ℕ} {ws : List ℕ} → kind < 4 → length ws ≡ numbers_of kind → AllWords ws
    → Has page at (frame_text kind ws) → FrameRead page at kind ws
frame_reads {page} {at} {kind} {ws} known long fit has =
    record {
      end = frame_end page at kind ws has long;
      whole = frame_whole page at kind ws has long;
      made = frame_made page at kind ws has long known;
      kind_read = frame_kind page at kind ws has long known;
      numbers_read = frame_numbers page at kind ws has long fit;
    }

-- ---- frames one after another

module _ (page : List ℕ) (at kind : ℕ) (numbers : ℕ → List ℕ) (long : (i : ℕ) → length (numbers i) ≡ numbers_of kind) where
  -- a page that has frames and more has the rest past them
  pub has_past_frames : (count : ℕ) (rest : List ℕ) → Has page at (frames_text kind numbers count ++ rest)
      → Has page (at + count * (frame_length kind + 1)) rest
  has_past_frames count rest has =
      subst (λ (j : ℕ). Has page (at + j) rest) (length_frames kind numbers count long) (has_back (frames_text kind numbers count) rest has)

  -- a page that has frames has each of them
  has_frame : (count : ℕ) → Has page at (frames_text kind numbers count) → (i : ℕ) → i < count
      → Has page (at + i * (frame_length kind + 1)) (frame_text kind (numbers i))
  has_frame zero has i h = absurd (not-suc-le-zero h)
  has_frame (suc count) has i h = ⊎_elim last (has_frame count (has_front front frame has) i) (below_suc h)
    where
      front : List ℕ
      front = frames_text kind numbers count

      frame : List ℕ
      frame = frame_text kind (numbers count)

      last : i ≡ count → Has page (at + i * (frame_length kind + 1)) (frame_text kind (numbers i))
      last e =
          subst (λ (j : ℕ). Has page (at + j * (frame_length kind + 1)) (frame_text kind (numbers j))) (sym e)
          (has_past_frames count frame has)

-- so many frames are lines from line k on, which begins at this place: where each begins, and that it is read back
pub record FrameLines (page : List ℕ) (at k kind : ℕ) (numbers : ℕ → List ℕ) (count : ℕ) : Type 0 where
  pub start : (i : ℕ) → i ≤ count → line_start page (k + i) ≡ at + i * (frame_length kind + 1)
  pub read : (i : ℕ) → i < count → FrameRead page (line_start page (k + i)) kind (numbers i)

-- frames that are read back one after another from where line k begins are lines
lines_read : {page : List ℕ} {at k kind : ℕ} {numbers : ℕ → List ℕ} {count : ℕ} → line_start page k ≡ at
    → ((i : ℕ) → i < count → FrameRead page (at + i * (frame_length kind + 1)) kind (numbers i)) → FrameLines page at k kind numbers count
lines_read {page} {at} {k} {kind} {numbers} {count} begins read =
    record { start = start; read = λ i h. subst (λ (a : ℕ). FrameRead page a kind (numbers i)) (sym (start i (omega arith))) (read i h) }
  where
    start : (i : ℕ) → i ≤ count → line_start page (k + i) ≡ at + i * (frame_length kind + 1)
    start zero h = ap (line_start page) (add-zero k) ∙ begins ∙ omega arith
    start (suc i) h =
        ap (line_start page) (add-suc k i)
        ∙ ap (λ (a : ℕ). suc (line_end page a)) (start i (omega arith))
        ∙ ap suc (read i h).end
        ∙ omega arith

-- a page that has the text of frames where line k begins has them as lines
pub frame_lines : {page : List ℕ} {at k kind : ℕ} {numbers : ℕ → List ℕ} {count : ℕ} → kind < 4
    → ((i : ℕ) → length (numbers i) ≡ numbers_of kind) → ((i : ℕ) → AllWords (numbers i))
    → Has page at (frames_text kind numbers count) → line_start page k ≡ at → FrameLines page at k kind numbers count
frame_lines {page} {at} {k} {kind} {numbers} {count} known long fit has begins =
    lines_read begins (λ i h. frame_reads known (long i) (fit i) (has_frame page at kind numbers long count has i h))
