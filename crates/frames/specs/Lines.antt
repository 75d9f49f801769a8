-- The lines of a page, and what a line holds: document 02, P1, "one frame a line, ended by a newline".
use Rattle.std.specs.Prelude.{true, false, List, ℕ, zero, suc, ◌+◌, ◌-◌, ◌*◌, ltb, eqb, length, get_or}
use Rattle.subdivision.specs.Formula.{Formula, is_less, is_equal, both, every_below, holds}
use Rattle.subdivision.specs.Lowest.{lowest_from}
use Rattle.frames.specs.declared.Line.{Line}
use Rattle.frames.specs.declared.Line.TheVariants.{Frame, Malformed, Unfinished, End}
use Rattle.frames.specs.Digits.{is_digit, number}

-- the newline
abbrev pub newline : ℕ
newline = 10

-- how many numbers a frame of a kind has: a head W, E, V, m, n; a vertex x, y; an edge its four; a point x, y
abbrev pub numbers_of : ℕ → ℕ
numbers_of zero = 5
numbers_of (suc zero) = 2
numbers_of (suc (suc zero)) = 4
numbers_of (suc (suc (suc kind))) = 2

-- the length of a frame of a kind: two digits for the kind, eight for each number
abbrev pub frame_length : ℕ → ℕ
frame_length kind = 2 + 8 * numbers_of kind

module _ (page : List ℕ) where
  -- the place of the first newline from a place on; the page's length where there is none
  unfoldable pub line_end : ℕ → ℕ
  line_end at = lowest_from (λ i. eqb (get_or page i 0) newline) (length page - at) at

  -- where line k begins: line 0 at the page's start, any other past the newline of the one before
  abbrev pub line_start : ℕ → ℕ
  line_start zero = 0
  line_start (suc k) = suc (line_end (line_start k))

  -- the kind that the line at a place says: its first two digits
  abbrev pub kind_at : ℕ → ℕ
  kind_at at = number page at 2

  -- number i of the frame at a place
  abbrev pub number_at : ℕ → ℕ → ℕ
  number_at at i = number page (at + (2 + 8 * i)) 8

  -- the bytes from a place to another are hexadecimal digits
  abbrev pub is_hexadecimal : ℕ → ℕ → Formula
  is_hexadecimal at end = every_below (end - at) (λ i. is_digit (get_or page (at + i) 0))

  -- the bytes from a place to another are a frame: hexadecimal, of a known kind, of its kind's length
  abbrev pub is_frame : ℕ → ℕ → Formula
  is_frame at end = both (is_hexadecimal at end) (both (is_less (kind_at at) 4) (is_equal (end - at) (frame_length (kind_at at))))

  -- what stands at a place
  unfoldable pub line_at : ℕ → Line
  line_at at =
      elim (ltb (line_end at) (length page)) [
        | true ↦ elim (holds (is_frame at (line_end at))) [ true ↦ Frame (kind_at at) (suc (line_end at)) | false ↦ Malformed ]
        | false ↦ elim (ltb at (length page)) [ true ↦ Unfinished | false ↦ End ]
      ]
