-- The tables that lines hold: their words are the lines' numbers, and their text is the lines' frames.
use mathlib.Core.Path.{◌≡◌, refl, ap, ap₂, ◌∙◌}
use mathlib.Core.List.{List, [], ◌∷◌, ◌++◌}
use Prim.Native.Nat.{ℕ, zero, suc, ◌+◌, ◌*◌, ◌/◌, ◌%◌, ◌<◌}
use native.Mathlib.Omega.{arith}
use lib.IntN.{ℤ, pos}
use lib.ListN.{length, get_or}
use Rattle.subdivision.specs.Lists.{tab}
use Rattle.frames.specs.Digits.{signed_of, word_of}
use Rattle.frames.specs.Lines.{line_start}
use Rattle.frames.specs.Pages.{number_of, head_vertices, head_edges, head_zones, page_sheet}
use Rattle.frames.specs.Texts.{frame_text, frames_text, pair_numbers, edge_numbers, head_numbers}
use Rattle.theory.proofs.Lists.{length_tab, get_d_tab}
use Rattle.framing.proofs.ReadDigits.{word_within, word_of_signed}
use Rattle.framing.proofs.LineTexts.{line_numbers}

-- frames of the same numbers have the same text
frames_same : (kind : ℕ) {f g : ℕ → List ℕ} (count : ℕ) → ((i : ℕ) → i < count → f i ≡ g i)
    → frames_text kind f count ≡ frames_text kind g count
frames_same kind zero same = refl
frames_same kind (suc count) same =
    ap₂ ◌++◌ (frames_same kind count (λ i h. same i (omega arith))) (ap (frame_text kind) (same count (omega arith)))

module _ (page : List ℕ) where
  -- the signed words of n lines from a first one on, two a line
  abbrev pub pair_words : ℕ → ℕ → List ℤ
  pair_words first n = tab (λ t. signed_of (number_of page (first + t / 2) (t % 2))) (2 * n)

  -- the words of n lines from a first one on, four a line
  abbrev pub four_words : ℕ → ℕ → List ℕ
  four_words first n = tab (λ t. number_of page (first + t / 4) (t % 4)) (4 * n)

  -- a number of a line comes back from the signed number that it stands for
  pub word_back : (k j : ℕ) → word_of (signed_of (number_of page k j)) ≡ number_of page k j
  word_back k j = word_of_signed (number_of page k j) (word_within page (line_start page k + (2 + 8 * j)))

  -- word j of pair i stands for number j of line i
  pair_word : (first n i j place : ℕ) → (place < 2 * n) × (place / 2 ≡ i) × (place % 2 ≡ j)
      → word_of (get_or (pair_words first n) place (pos 0)) ≡ number_of page (first + i) j
  pair_word first n i j place (within, line, column) =
      ap word_of (get_d_tab (λ t. signed_of (number_of page (first + t / 2) (t % 2))) (2 * n) place (pos 0) within)
      ∙ rw (line, column) (word_back (first + i) j)

  -- word j of four i is number j of line i
  four_word : (first n i j place : ℕ) → (place < 4 * n) × (place / 4 ≡ i) × (place % 4 ≡ j)
      → get_or (four_words first n) place 0 ≡ number_of page (first + i) j
  four_word first n i j place (within, line, column) =
      get_d_tab (λ t. number_of page (first + t / 4) (t % 4)) (4 * n) place 0 within ∙ rw (line, column)

  -- pair i is written with the numbers of line i
  pair_numbers_lem : (first n i : ℕ) → i < n → line_numbers page 1 (first + i) ≡ pair_numbers (pair_words first n) i
  pair_numbers_lem first n i h =
      let x = pair_word first n i 0 (2 * i) (omega arith) in
      let y = pair_word first n i 1 (2 * i + 1) (omega arith) in
      cc

  -- four i is written with the numbers of line i
  four_numbers : (first n i : ℕ) → i < n → line_numbers page 2 (first + i) ≡ edge_numbers (four_words first n) i
  four_numbers first n i h =
      let west = four_word first n i 0 (4 * i) (omega arith) in
      let east = four_word first n i 1 (4 * i + 1) (omega arith) in
      let above = four_word first n i 2 (4 * i + 2) (omega arith) in
      let below = four_word first n i 3 (4 * i + 3) (omega arith) in
      cc

  -- the words of n lines, two a line, are n pairs
  pub pair_count : (first n : ℕ) → length (pair_words first n) / 2 ≡ n
  pair_count first n = rw length_tab (omega arith)

  -- the words of n lines, four a line, are n fours
  pub four_count : (first n : ℕ) → length (four_words first n) / 4 ≡ n
  four_count first n = rw length_tab (omega arith)

  -- the frames of lines' pairs have the lines' numbers
  pub pair_frames : (kind first n : ℕ)
      → frames_text kind (λ i. line_numbers page 1 (first + i)) n
      ≡ frames_text kind (pair_numbers (pair_words first n)) (length (pair_words first n) / 2)
  pair_frames kind first n = rw (pair_count first n) (frames_same kind n (pair_numbers_lem first n))

  -- the frames of lines' fours have the lines' numbers
  pub four_frames : (kind first n : ℕ)
      → frames_text kind (λ i. line_numbers page 2 (first + i)) n
      ≡ frames_text kind (edge_numbers (four_words first n)) (length (four_words first n) / 4)
  four_frames kind first n = rw (four_count first n) (frames_same kind n (four_numbers first n))

  -- the head of the page's sheet has the numbers of line 0
  pub head_numbers_lem : (points : List ℤ) → head_numbers (page_sheet page) points ≡ line_numbers page 0 0
  head_numbers_lem points i =
      word_back 0 0 i ∷ word_back 0 1 i ∷ vertices i ∷ edges i ∷ head_zones page ∷ []
    where
      vertices : length (pair_words 1 (head_vertices page)) / 2 ≡ head_vertices page
      vertices = pair_count 1 (head_vertices page)

      edges : length (four_words (1 + head_vertices page) (head_edges page)) / 4 ≡ head_edges page
      edges = four_count (1 + head_vertices page) (head_edges page)
