-- The text of a sheet with its points, and the writer: document 02, P1, "a writer makes the same frames".
use Rattle.std.specs.Prelude.{◌≡◌, List, [], ◌∷◌, ◌++◌, ℕ, zero, suc, ◌+◌, ◌*◌, ◌/◌, ◌%◌, ◌≤◌, ℤ, pos, length, get_or, take, Result, Ok, Err}
use Rattle.io.specs.Digits.{last_digits}
use Rattle.subdivision.specs.declared.Refused.{Refused}
use Rattle.subdivision.specs.Formula.{Formula, is_at_most, is_equal, both}
use Rattle.subdivision.specs.Lists.{put}
use Rattle.subdivision.specs.Sheet.{Sheet, sheet_of, vertex_count, edge_count, zone_count}
use Rattle.subdivision.specs.Refusals.{Refusal, unnamed, judged, counts_kept}
use Rattle.frames.specs.declared.Head.{Head}
use Rattle.frames.specs.Digits.{word_of}
use Rattle.frames.specs.Lines.{newline}
use Rattle.frames.specs.Pages.{sheet_page, read_page}

-- what writing a page gives back beside the text: so many bytes, or a refusal
abbrev pub Written : Type 0
Written = Result ℕ Refused

-- what a call of the writer leaves: its answer, and the lent text
pub record PageWritten : Type 0 where
  pub written : Written
  pub text : List ℕ

-- numbers as text, eight digits each
abbrev pub numbers_text : List ℕ → List ℕ
numbers_text [] = []
numbers_text (w ∷ ws) = last_digits 16 8 w ++ numbers_text ws

-- a frame as a line: its kind in two digits, its numbers, and a newline
abbrev pub frame_text : ℕ → List ℕ → List ℕ
frame_text kind numbers = last_digits 16 2 kind ++ (numbers_text numbers ++ (newline ∷ []))

-- so many frames of a kind, one after another, where a function gives the numbers of each
abbrev pub frames_text : ℕ → (ℕ → List ℕ) → ℕ → List ℕ
frames_text kind numbers zero = []
frames_text kind numbers (suc count) = frames_text kind numbers count ++ frame_text kind (numbers count)

-- the numbers of pair i of a table: a vertex's or a point's
abbrev pub pair_numbers : List ℤ → ℕ → List ℕ
pair_numbers table i = word_of (get_or table (2 * i) (pos 0)) ∷ word_of (get_or table (2 * i + 1) (pos 0)) ∷ []

-- the numbers of edge i of a table
abbrev pub edge_numbers : List ℕ → ℕ → List ℕ
edge_numbers table i = get_or table (4 * i) 0 ∷ get_or table (4 * i + 1) 0 ∷ get_or table (4 * i + 2) 0 ∷ get_or table (4 * i + 3) 0 ∷ []

module _ (s : Sheet) (points : List ℤ) where
  -- the numbers of the head: W, E, V, m, n
  abbrev pub head_numbers : List ℕ
  head_numbers = word_of s.west ∷ word_of s.east ∷ vertex_count s ∷ edge_count s ∷ zone_count s ∷ []

  -- the head, the vertices, the edges, the points
  unfoldable pub page_text : List ℕ
  page_text =
      frame_text 0 head_numbers
      ++ (frames_text 1 (pair_numbers s.vertices) (vertex_count s)
      ++ (frames_text 2 (edge_numbers s.edges) (edge_count s)
      ++ frames_text 3 (pair_numbers points) (length points / 2)))

  -- the writer's refusal 1: document 01's, or a points table that is not whole
  abbrev pub writable_counts : Formula
  writable_counts = both (counts_kept s) (is_equal (length points % 2) 0)

  -- the writer's refusals in order, with a lent text of so many bytes: 1, then 33
  abbrev pub writer_refusals : ℕ → List Refusal
  writer_refusals room = unnamed 1 writable_counts ∷ unnamed 33 (is_at_most (length page_text) room) ∷ []

  -- the writer: a refusal leaves the lent text as it was
  unfoldable pub write_page : List ℕ → PageWritten
  write_page text =
      elim (judged (writer_refusals (length text))) [
        | Ok u ↦ record { written = Ok (length page_text); text = put page_text text }
        | Err e ↦ record { written = Err e; text = text }
      ]

  -- the head of the sheet
  abbrev pub sheet_head : Head
  sheet_head = record { west = s.west; east = s.east; vertices = vertex_count s; edges = edge_count s; zones = zone_count s }

  -- reading this page into tables with room gives the sheet and the points back
  abbrev pub ReadsBack : List ℕ → Type 0
  ReadsBack page =
      (vertices : List ℤ) (edges : List ℕ) (points' : List ℤ)
      → length s.vertices ≤ length vertices → length s.edges ≤ length edges → length points ≤ length points'
      → read_page page vertices edges points' ≡ record { page = sheet_page sheet_head (length points / 2); vertices = put s.vertices vertices; edges = put s.edges edges; points = put points points' }

-- a page is the text of what was read from it, and so the only page that reads so: the tables afterwards, as far as the head counts them
abbrev pub OneText : List ℕ → Head → ℕ → List ℤ → List ℕ → List ℤ → Type 0
OneText page head count vertices edges points =
    page ≡ page_text (sheet_of head.west head.east (take (2 * head.vertices) vertices) (take (4 * head.edges) edges) head.zones) (take (2 * count) points)
