-- Worked cases of document 02, P1, computed from the definitions: the lens sheet with its seven points as a page, and pages that are refused.
use Rattle.std.specs.Prelude.{◌≡◌, refl, false, List, [], ◌∷◌, ◌++◌, ℕ, ℤ, pos, negsuc, take, drop, set, Ok}
use Rattle.subdivision.specs.Results.{refused}
use Rattle.subdivision.specs.declared.Answer.{Answer}
use Rattle.subdivision.specs.Formula.{holds}
use Rattle.subdivision.specs.Lowest.{lowest}
use Rattle.subdivision.specs.Lists.{tab}
use Rattle.subdivision.specs.Sheet.{sheet_of}
use Rattle.subdivision.specs.WorkedTable.{lens}
use Rattle.frames.specs.Lines.{line_end, newline}
use Rattle.frames.specs.Pages.{refused_page, sheet_page, judged_page, read_page}
use Rattle.frames.specs.Texts.{frame_text, head_numbers, pair_numbers, page_text, sheet_head}
use Rattle.frames.specs.Placing.{decimal, refused_text, answer_text, head_beyond, placed_text}

-- the seven points of the lens sheet
unfoldable pub lens_points : List ℤ
lens_points =
    pos 2 ∷ pos 0 ∷ pos 2 ∷ pos 2 ∷ pos 1 ∷ pos 1 ∷ pos 4 ∷ pos 0 ∷ pos 0 ∷ pos 0 ∷ pos 1 ∷ pos 5 ∷ pos 3 ∷ negsuc 1 ∷ []

-- its page
unfoldable pub lens_page : List ℕ
lens_page = page_text lens lens_points

-- the lens begins with this line: `000000000000000004000000040000000400000003`
pub lens_head
    : frame_text 0 (head_numbers lens [])
    ≡ 48 ∷ 48 ∷ 48 ∷ 48 ∷ 48 ∷ 48 ∷ 48 ∷ 48 ∷ 48 ∷ 48 ∷ 48 ∷ 48 ∷ 48 ∷ 48 ∷ 48 ∷ 48 ∷ 48 ∷ 52 ∷ 48 ∷ 48 ∷ 48 ∷ 48 ∷
    48 ∷ 48 ∷ 48 ∷ 52 ∷ 48 ∷ 48 ∷ 48 ∷ 48 ∷ 48 ∷ 48 ∷ 48 ∷ 52 ∷ 48 ∷ 48 ∷ 48 ∷ 48 ∷ 48 ∷ 48 ∷ 48 ∷ 51 ∷ 10 ∷ []
unfolding lens
lens_head = refl

-- its vertex 2 is this line: `0100000002fffffffe`
pub lens_vertex
    : frame_text 1 (pair_numbers lens.vertices 2)
    ≡ 48 ∷ 49 ∷ 48 ∷ 48 ∷ 48 ∷ 48 ∷ 48 ∷ 48 ∷ 48 ∷ 50 ∷ 102 ∷ 102 ∷ 102 ∷ 102 ∷ 102 ∷ 102 ∷ 102 ∷ 101 ∷ 10 ∷ []
unfolding lens
lens_vertex = refl

-- read again it gives the sheet and the points back
pub lens_read
    : read_page lens_page lens.vertices lens.edges lens_points
    ≡ record { page = sheet_page (sheet_head lens []) 7; vertices = lens.vertices; edges = lens.edges; points = lens_points }
unfolding lens lens_points lens_page page_text read_page judged_page line_end lowest tab
lens_read = refl

-- a page of a head, a vertex, an edge and a point
unfoldable pub short_page : List ℕ
short_page = page_text (sheet_of (pos 0) (pos 4) (pos 0 ∷ negsuc 0 ∷ []) (0 ∷ 0 ∷ 1 ∷ 0 ∷ []) 2) (pos 2 ∷ pos 0 ∷ [])

-- ---- that page whole and damaged, judged

-- the page as it is
pub judged_whole : judged_page short_page ≡ Ok 1
unfolding short_page page_text judged_page line_end lowest
judged_whole = refl

-- an empty page
pub judged_empty : judged_page [] ≡ refused_page 32 0
unfolding short_page page_text judged_page line_end lowest
judged_empty = refl

-- an empty line
pub judged_empty_line : judged_page (newline ∷ []) ≡ refused_page 30 0
unfolding short_page page_text judged_page line_end lowest
judged_empty_line = refl

-- the head alone
pub judged_head_alone : judged_page (take 43 short_page) ≡ refused_page 32 1
unfolding short_page page_text judged_page line_end lowest
judged_head_alone = refl

-- the head without its newline
pub judged_head_unfinished : judged_page (take 42 short_page) ≡ refused_page 32 0
unfolding short_page page_text judged_page line_end lowest
judged_head_unfinished = refl

-- an upper-case digit in the head
pub judged_upper_case : judged_page (set short_page 40 70) ≡ refused_page 30 0
unfolding short_page page_text judged_page line_end lowest
judged_upper_case = refl

-- no zones
pub judged_no_zones : judged_page (set short_page 41 48) ≡ refused_page 1 0
unfolding short_page page_text judged_page line_end lowest
judged_no_zones = refl

-- a point where the vertex is to be
pub judged_point_for_vertex : judged_page (set short_page 44 51) ≡ refused_page 31 1
unfolding short_page page_text judged_page line_end lowest
judged_point_for_vertex = refl

-- the same with a bad digit
pub judged_bad_point_for_vertex : judged_page (set (set short_page 44 51) 45 65) ≡ refused_page 30 1
unfolding short_page page_text judged_page line_end lowest
judged_bad_point_for_vertex = refl

-- an edge of a vertex's length
pub judged_short_edge : judged_page (set short_page 44 50) ≡ refused_page 30 1
unfolding short_page page_text judged_page line_end lowest
judged_short_edge = refl

-- no head
pub judged_no_head : judged_page (drop 43 short_page) ≡ refused_page 31 0
unfolding short_page page_text judged_page line_end lowest
judged_no_head = refl

-- no points
pub judged_no_points : judged_page (take 97 short_page) ≡ Ok 0
unfolding short_page page_text judged_page line_end lowest
judged_no_points = refl

-- no edges
pub judged_no_edges : judged_page (take 62 short_page) ≡ refused_page 32 2
unfolding short_page page_text judged_page line_end lowest
judged_no_edges = refl

-- the last newline missing
pub judged_last_newline : judged_page (take 115 short_page) ≡ refused_page 32 3
unfolding short_page page_text judged_page line_end lowest
judged_last_newline = refl

-- a point cut after one digit
pub judged_cut : judged_page (take 98 short_page) ≡ refused_page 32 3
unfolding short_page page_text judged_page line_end lowest
judged_cut = refl

-- an empty line at the end
pub judged_last_empty : judged_page (short_page ++ (newline ∷ [])) ≡ refused_page 30 4
unfolding short_page page_text judged_page line_end lowest
judged_last_empty = refl

-- ---- that page with other counts (P5): the reader's limits, and what the program holds

-- 1,026 zones are within the limits, and more than the program holds
pub judged_many_zones : judged_page (set short_page 39 52) ≡ Ok 1
unfolding short_page page_text judged_page line_end lowest
judged_many_zones = refl

pub placed_many_zones : placed_text (set short_page 39 52) ≡ refused_text 1 0
unfolding short_page page_text judged_page placed_text line_end lowest
placed_many_zones = refl

-- so it is where a later line is bad, and not where line 0 is
pub placed_many_zones_bad_vertex : placed_text (set (set short_page 39 52) 45 65) ≡ refused_text 1 0
unfolding short_page page_text judged_page placed_text line_end lowest
placed_many_zones_bad_vertex = refl

pub placed_many_zones_bad_head : placed_text (set (set short_page 39 52) 40 70) ≡ refused_text 30 0
unfolding short_page page_text judged_page placed_text line_end lowest
placed_many_zones_bad_head = refl

-- the program holds 1,024 zones
pub held_zones : holds (head_beyond (set (set short_page 39 52) 41 48)) ≡ false
unfolding short_page page_text line_end lowest
held_zones = refl

-- 4,098 zones are beyond the limits
pub judged_too_many_zones : judged_page (set short_page 38 49) ≡ refused_page 1 0
unfolding short_page page_text judged_page line_end lowest
judged_too_many_zones = refl

-- lines of answers
unfoldable pub answer_lines : List (List ℕ)
answer_lines = answer_text (Ok (Answer.Vertex 0)) ∷ answer_text (Ok (Answer.Edge 2047)) ∷ answer_text (Ok (Answer.Zone 10)) ∷ answer_text (refused 20 0) ∷ []

-- `vertex 0`, `edge 2047`, `zone 10`, `refused 20 0`
pub answer_lines_lem
    : answer_lines
    ≡ (118 ∷ 101 ∷ 114 ∷ 116 ∷ 101 ∷ 120 ∷ 32 ∷ 48 ∷ 10 ∷ [])
    ∷ (101 ∷ 100 ∷ 103 ∷ 101 ∷ 32 ∷ 50 ∷ 48 ∷ 52 ∷ 55 ∷ 10 ∷ [])
    ∷ (122 ∷ 111 ∷ 110 ∷ 101 ∷ 32 ∷ 49 ∷ 48 ∷ 10 ∷ [])
    ∷ (114 ∷ 101 ∷ 102 ∷ 117 ∷ 115 ∷ 101 ∷ 100 ∷ 32 ∷ 50 ∷ 48 ∷ 32 ∷ 48 ∷ 10 ∷ [])
    ∷ []
unfolding answer_lines answer_text decimal lowest
answer_lines_lem = refl
