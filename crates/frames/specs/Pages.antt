-- A page judged line by line, and the tables that a good one holds: document 02, P1, "head first, then exactly V vertices, m edges,
-- any points", and its refusals.
use Rattle.std.specs.Prelude.{◌≡◌, true, false, not, List, ◌⊎◌, ℕ, ◌+◌, ◌-◌, ◌*◌, ◌/◌, ◌%◌, ◌<◌, leb, eqb, ℤ, length, Result, Ok, Err}
use Rattle.subdivision.specs.Formula.{Formula, is_less, is_at_most, is_equal, both, implies, holds, Means}
use Rattle.subdivision.specs.Lowest.{lowest}
use Rattle.subdivision.specs.Lists.{tab, put}
use Rattle.subdivision.specs.Sheet.{Sheet, sheet_of}
use Rattle.subdivision.specs.Refusals.{counts_within}
use Rattle.frames.specs.declared.Head.{Head}
use Rattle.frames.specs.declared.PageContents.{PageContents}
use Rattle.frames.specs.declared.PageRefused.{PageRefused}
use Rattle.frames.specs.Digits.{signed_of}
use Rattle.frames.specs.Lines.{line_start, line_end, kind_at, number_at, is_frame}

-- the kind that line k is to be of, where there are so many vertices and edges: the head, then vertices, edges, and points
abbrev pub kind_in_order : ℕ → ℕ → ℕ → ℕ
kind_in_order vertices edges k =
    elim (eqb k 0) [
      | true ↦ 0
      | false ↦ elim (leb k vertices) [ true ↦ 1 | false ↦ elim (leb k (vertices + edges)) [ true ↦ 2 | false ↦ 3 ] ]
    ]

-- a refusal of a page: its number, and the line that it names
abbrev pub refused_page : {A : Type 0} → ℕ → ℕ → Result A PageRefused
refused_page number line = Err (record { number = number; line = line })

-- a page with a sheet: its head, and the number of points
abbrev pub sheet_page : Head → ℕ → Result PageContents PageRefused
sheet_page head count = Ok (record { head = head; points = count })

-- what a call of the reader leaves: its answer, and the lent tables
pub record PageRead : Type 0 where
  pub page : Result PageContents PageRefused
  pub vertices : List ℤ
  pub edges : List ℕ
  pub points : List ℤ

module _ (page : List ℕ) where
  -- line k is there whole: it has its newline
  abbrev pub is_whole : ℕ → Formula
  is_whole k = is_less (line_end page (line_start page k)) (length page)

  -- line k is hexadecimal, of a known kind, of its kind's length: refusal 30 where it is not
  abbrev pub is_well_made : ℕ → Formula
  is_well_made k = is_frame page (line_start page k) (line_end page (line_start page k))

  -- number i of line k
  abbrev pub number_of : ℕ → ℕ → ℕ
  number_of k i = number_at page (line_start page k) i

  -- V, as the head says
  abbrev pub head_vertices : ℕ
  head_vertices = number_of 0 2

  -- m, as the head says
  abbrev pub head_edges : ℕ
  head_edges = number_of 0 3

  -- n, as the head says
  abbrev pub head_zones : ℕ
  head_zones = number_of 0 4

  -- the kind that line k is to be of, by the head's counts
  abbrev pub wanted_kind : ℕ → ℕ
  wanted_kind k = kind_in_order head_vertices head_edges k

  -- the kind of line k is in order: refusal 31 where it is not
  abbrev pub is_in_order : ℕ → Formula
  is_in_order k = is_equal (kind_at page (line_start page k)) (wanted_kind k)

  -- the last check of line 0, that its counts keep document 01's limits: refusal 1 where they do not
  abbrev pub keeps_limits : ℕ → Formula
  keeps_limits k = implies (is_equal k 0) (counts_within head_vertices head_edges head_zones)

  -- line k is there whole and nothing is at fault in it
  abbrev pub is_good : ℕ → Formula
  is_good k = both (is_whole k) (both (is_well_made k) (both (is_in_order k) (keeps_limits k)))

  -- the page ends where line k would begin, and no line that the head counts is missing
  abbrev pub is_end : ℕ → Formula
  is_end k = both (is_equal (line_start page k) (length page)) (is_less (head_vertices + head_edges) k)

  -- the earliest line that is not good
  abbrev pub first_not_good : ℕ
  first_not_good = lowest (λ k. not (holds (is_good k))) (length page)

  -- the refusal of a line that is not good: 32 where it is not there whole; of a whole one 30, then 31, then 1
  abbrev pub line_refusal : ℕ → ℕ
  line_refusal k =
      elim (holds (is_whole k)) [
        | false ↦ 32
        | true ↦ elim (holds (is_well_made k)) [ false ↦ 30 | true ↦ elim (holds (is_in_order k)) [ false ↦ 31 | true ↦ 1 ] ]
      ]

  -- the number of points: the good lines past the edges
  abbrev pub point_count : ℕ
  point_count = first_not_good - (1 + head_vertices + head_edges)

  -- the earliest line that is not good decides, unless the page ends there
  unfoldable pub judged_page : Result ℕ PageRefused
  judged_page = elim (holds (is_end first_not_good)) [ true ↦ Ok point_count | false ↦ refused_page (line_refusal first_not_good) first_not_good ]

  -- the numbers of the head
  abbrev pub head_of : Head
  head_of =
      record { west = signed_of (number_of 0 0); east = signed_of (number_of 0 1); vertices = head_vertices; edges = head_edges; zones = head_zones }

  -- the words of the vertices, x then y, from line 1 on
  abbrev pub vertex_words : List ℤ
  vertex_words = tab (λ i. signed_of (number_of (1 + i / 2) (i % 2))) (2 * head_vertices)

  -- the words of the edges, four each, from the line after the vertices on
  abbrev pub edge_words : List ℕ
  edge_words = tab (λ i. number_of (1 + head_vertices + i / 4) (i % 4)) (4 * head_edges)

  -- the words of so many points, x then y, from the line after the edges on
  abbrev pub point_words : ℕ → List ℤ
  point_words count = tab (λ i. signed_of (number_of (1 + head_vertices + head_edges + i / 2) (i % 2))) (2 * count)

  -- the sheet that the page holds
  abbrev pub page_sheet : Sheet
  page_sheet = sheet_of head_of.west head_of.east vertex_words edge_words head_zones

  -- lent tables of these lengths have room for the page's, with so many points: refusal 33 where they have not
  abbrev pub room_kept : ℕ → ℕ → ℕ → ℕ → Formula
  room_kept count vertices edges points =
      both (is_at_most (2 * head_vertices) vertices) (both (is_at_most (4 * head_edges) edges) (is_at_most (2 * count) points))

  -- the page, then the room; a refusal leaves the lent tables as they were
  unfoldable pub read_page : List ℤ → List ℕ → List ℤ → PageRead
  read_page vertices edges points =
      elim judged_page [
        | Err e ↦ record { page = Err e; vertices = vertices; edges = edges; points = points }
        | Ok count ↦
            elim (holds (room_kept count (length vertices) (length edges) (length points))) [
              | false ↦ record { page = refused_page 33 0; vertices = vertices; edges = edges; points = points }
              | true ↦
                  record { page = sheet_page head_of count; vertices = put vertex_words vertices; edges = put edge_words edges; points = put (point_words count) points }
            ]
      ]

  -- ---- when each refusal is given, as statements

  -- every line before line k is good
  abbrev pub GoodBefore : ℕ → Type 0
  GoodBefore k = (j : ℕ) → j < k → Means (is_good j)

  -- this number is line k's: 32, the page ends early at it; 30; 31, and it is well made; 1, and it is in order too
  abbrev pub LineRefuses : ℕ → ℕ → Type 0
  LineRefuses number k =
      ((number ≡ 32) × ((Means (is_whole k) → ⊥) × (Means (is_end k) → ⊥)))
      ⊎ (((number ≡ 30) × (Means (is_whole k) × (Means (is_well_made k) → ⊥)))
      ⊎ (((number ≡ 31) × (Means (is_whole k) × (Means (is_well_made k) × (Means (is_in_order k) → ⊥))))
      ⊎ ((number ≡ 1) × (Means (is_whole k) × (Means (is_well_made k) × (Means (is_in_order k) × (Means (keeps_limits k) → ⊥)))))))

  -- the page is good and has so many points
  abbrev pub GoodPage : ℕ → Type 0
  GoodPage count = GoodBefore (1 + head_vertices + head_edges + count) × Means (is_end (1 + head_vertices + head_edges + count))

  -- the reader's refusals: a line's, where every line before it is good; 33, where the page is good and a lent table is short
  abbrev pub PageRefuses : ℕ → ℕ → ℕ → ℕ → ℕ → Type 0
  PageRefuses vertices edges points number line =
      (GoodBefore line × LineRefuses number line)
      ⊎ (((number ≡ 33) × (line ≡ 0)) × ((count : ℕ) × (GoodPage count × (Means (room_kept count vertices edges points) → ⊥))))
