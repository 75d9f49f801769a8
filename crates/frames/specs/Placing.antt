-- What the program prints for a page: document 02, P1, "prints a line for each point", and P5, "programs with fixed buffers".
use Rattle.std.specs.Prelude.{true, false, List, [], ◌∷◌, ◌++◌, ℕ, zero, suc, ◌+◌, ◌*◌, ◌/◌, ◌^◌, leb, ltb, ℤ, pos, length, get_or, Ok, Err}
use Rattle.io.specs.Digits.{last_digits}
use Rattle.subdivision.specs.Results.{Reply, refused}
use Rattle.subdivision.specs.declared.Answer.{Answer}
use Rattle.subdivision.specs.Limits.{program_limits}
use Rattle.subdivision.specs.Formula.{Formula, both, not_so, holds}
use Rattle.subdivision.specs.Lowest.{lowest}
use Rattle.subdivision.specs.Lists.{put}
use Rattle.subdivision.specs.Sheet.{Sheet}
use Rattle.subdivision.specs.Refusals.{judged, counts_within_under}
use Rattle.subdivision.specs.Faults.{table_refusals}
use Rattle.subdivision.specs.Calls.{reading}
use Rattle.frames.specs.Lines.{newline}
use Rattle.frames.specs.Pages.{head_vertices, head_edges, head_zones, is_whole, is_well_made, is_in_order, judged_page, page_sheet, point_words}
use Rattle.frames.specs.Texts.{PageWritten}

-- the longest page that the program reads
abbrev pub max_page : ℕ
max_page = 65536

-- the room that a text for any page asks
abbrev pub max_text : ℕ
max_text = 131072

-- a number in decimal: the fewest digits that hold it
unfoldable pub decimal : ℕ → List ℕ
decimal n = last_digits 10 (suc (lowest (λ k. ltb n (10 ^ suc k)) n)) n

-- `vertex `
abbrev pub vertex_word : List ℕ
vertex_word = 118 ∷ 101 ∷ 114 ∷ 116 ∷ 101 ∷ 120 ∷ 32 ∷ []

-- `edge `
abbrev pub edge_word : List ℕ
edge_word = 101 ∷ 100 ∷ 103 ∷ 101 ∷ 32 ∷ []

-- `zone `
abbrev pub zone_word : List ℕ
zone_word = 122 ∷ 111 ∷ 110 ∷ 101 ∷ 32 ∷ []

-- `refused `
abbrev pub refused_word : List ℕ
refused_word = 114 ∷ 101 ∷ 102 ∷ 117 ∷ 115 ∷ 101 ∷ 100 ∷ 32 ∷ []

-- a word, a number and a newline
abbrev pub numbered : List ℕ → ℕ → List ℕ
numbered word n = word ++ (decimal n ++ (newline ∷ []))

-- the line of a refusal: its number and the item that it names
abbrev pub refused_text : ℕ → ℕ → List ℕ
refused_text number item = refused_word ++ (decimal number ++ (32 ∷ decimal item ++ (newline ∷ [])))

-- the line of an answer
unfoldable pub answer_text : Reply → List ℕ
answer_text (Ok (Answer.Vertex v)) = numbered vertex_word v
answer_text (Ok (Answer.Edge e)) = numbered edge_word e
answer_text (Ok (Answer.Zone z)) = numbered zone_word z
answer_text (Err e) = refused_text e.number e.item

module _ (s : Sheet) (points : List ℤ) where
  -- the lines of the first so many points of a table, by the plain reading
  abbrev pub answers_text : ℕ → List ℕ
  answers_text zero = []
  answers_text (suc count) = answers_text count ++ answer_text (reading s (get_or points (2 * count) (pos 0)) (get_or points (2 * count + 1) (pos 0)))

  -- a line for each point of an accepted sheet; one refusal line alone for a refused one
  unfoldable pub sheet_text : List ℕ
  sheet_text =
      elim (judged (table_refusals s)) [ Err e ↦ refused_text e.number e.item | Ok u ↦ answers_text (length points / 2) ]

module _ (page : List ℕ) where
  -- the program's last check of line 0 (P5): the line is there whole, well made and in order, and its counts are more than fixed buffers hold
  abbrev pub head_beyond : Formula
  head_beyond =
      both (is_whole page 0) (both (is_well_made page 0) (both (is_in_order page 0)
      (not_so (counts_within_under program_limits (head_vertices page) (head_edges page) (head_zones page)))))

  -- the whole page, then its sheet with its points; a page that is too long, too much for the program, or refused is one refusal line alone
  unfoldable pub placed_text : List ℕ
  placed_text =
      elim (ltb max_page (length page)) [
        | true ↦ refused_text 34 0
        | false ↦
            elim (holds head_beyond) [
              | true ↦ refused_text 1 0
              | false ↦
                  elim (judged_page page) [
                    | Err e ↦ refused_text e.number e.line
                    | Ok count ↦ sheet_text (page_sheet page) (point_words page count)
                  ]
            ]
      ]

  -- the text printed, written over the front of a lent one; 33 where that is shorter than any page may need
  unfoldable pub place_page : List ℕ → PageWritten
  place_page text =
      elim (leb max_text (length text)) [
        | true ↦ record { written = Ok (length placed_text); text = put placed_text text }
        | false ↦ record { written = refused 33 0; text = text }
      ]
