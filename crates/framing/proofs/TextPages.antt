-- The text of a sheet with its points reads back: where each line of it begins, that each is good, and what the reader gives.
use mathlib.Core.Path.{◌≡◌, refl, ap, subst, ◌∙◌}
use mathlib.Core.List.{List, ◌++◌}
use Prim.Native.Nat.{ℕ, suc, ◌+◌, ◌*◌, ◌/◌, ◌%◌, ◌<◌, ◌≤◌}
use native.Mathlib.Nat.{le_refl}
use native.Mathlib.Omega.{arith}
use lib.IntN.{ℤ, pos}
use lib.ListN.{length, get_or}
use lib.Signed.{mag}
use Rattle.subdivision.specs.Formula.{Means}
use Rattle.subdivision.specs.Limits.{origin}
use Rattle.subdivision.specs.Lists.{tab, put}
use Rattle.subdivision.specs.Sheet.{Sheet, vertex_count, edge_count, zone_count}
use Rattle.frames.specs.Digits.{signed_of}
use Rattle.frames.specs.Pages.{head_vertices, head_edges, is_good, is_end, GoodBefore, GoodPage}
use Rattle.frames.specs.Pages.{number_of, sheet_page, head_of, vertex_words, edge_words, point_words, room_kept}
use Rattle.frames.specs.Texts.{frame_text, frames_text, pair_numbers, edge_numbers, head_numbers}
use Rattle.frames.specs.Texts.{page_text, writable_counts, sheet_head, ReadsBack}
use Rattle.framing.proofs.FrameLengths.{text_length}
use Rattle.framing.proofs.GoodLines.{HeadCounts, good_line, good_lines, good_end, good_page}
use Rattle.framing.proofs.Judging.{good_judged, read_good}
use Rattle.framing.proofs.LineKinds.{kind_vertex, kind_edge, kind_point}
use Rattle.framing.proofs.TextDigits.{Has, has_itself, has_front, has_back, signed_word, word_fits}
use Rattle.framing.proofs.TextFrames.{AllWords, FrameRead, frame_reads, has_past_frames, FrameLines, frame_lines}
use Rattle.framing.proofs.TextTables.{pair_fits, pairs_back, edge_fits, edges_back}

-- every number of the sheet and of a table of points is of four bytes
pub record WordsFit (s : Sheet) (table : List ℤ) : Type 0 where
  pub west : mag s.west < origin
  pub east : mag s.east < origin
  pub vertices : (i : ℕ) → mag (get_or s.vertices i (pos 0)) < origin
  pub edges : (i : ℕ) → get_or s.edges i 0 < 4294967296
  pub points : (i : ℕ) → mag (get_or table i (pos 0)) < origin

-- where the edges begin in the text
abbrev pub edges_at : Sheet → ℕ
edges_at s = 43 + vertex_count s * 19

-- where the points begin in the text
abbrev pub points_at : Sheet → ℕ
points_at s = edges_at s + edge_count s * 35

-- ---- its parts

module _ (s : Sheet) (points : List ℤ) where
  -- the head as text
  abbrev head_text : List ℕ
  head_text = frame_text 0 (head_numbers s points)

  -- the vertices as text
  abbrev vertices_text : List ℕ
  vertices_text = frames_text 1 (pair_numbers s.vertices) (vertex_count s)

  -- the edges as text
  abbrev edges_text : List ℕ
  edges_text = frames_text 2 (edge_numbers s.edges) (edge_count s)

  -- the points as text
  abbrev points_text : List ℕ
  points_text = frames_text 3 (pair_numbers points) (length points / 2)

  -- the text has its parts in order
  has_parts : Has (page_text s points) 0 (head_text ++ (vertices_text ++ (edges_text ++ points_text)))
  unfolding page_text
  has_parts = has_itself (page_text s points)

  -- it has the head at its start
  has_head : Has (page_text s points) 0 head_text
  has_head = has_front head_text (vertices_text ++ (edges_text ++ points_text)) has_parts

  -- past the head it has the rest
  has_past_head : Has (page_text s points) 43 (vertices_text ++ (edges_text ++ points_text))
  has_past_head = has_back head_text (vertices_text ++ (edges_text ++ points_text)) has_parts

  -- past the head it has the vertices
  has_vertices : Has (page_text s points) 43 vertices_text
  has_vertices = has_front vertices_text (edges_text ++ points_text) has_past_head

  -- past the vertices it has the rest
  has_past_vertices : Has (page_text s points) (edges_at s) (edges_text ++ points_text)
  has_past_vertices =
      has_past_frames (page_text s points) 43 1 (pair_numbers s.vertices) (λ i. refl) (vertex_count s)
      (edges_text ++ points_text) has_past_head

  -- past the vertices it has the edges
  has_edges : Has (page_text s points) (edges_at s) edges_text
  has_edges = has_front edges_text points_text has_past_vertices

  -- past the edges it has the points
  has_points : Has (page_text s points) (points_at s) points_text
  has_points =
      has_past_frames (page_text s points) (edges_at s) 2 (edge_numbers s.edges) (λ i. refl) (edge_count s) points_text has_past_vertices

module _ (s : Sheet) (points : List ℤ) (kept : Means (writable_counts s points)) (fit : WordsFit s points) where
  -- ---- its lines

  -- the numbers of the head are of four bytes
  head_fits : AllWords (head_numbers s points)
  head_fits = (word_fits s.west fit.west, (word_fits s.east fit.east, (omega arith, (omega arith, (omega arith, tt)))))

  -- line 0 reads the head back
  pub head_read : FrameRead (page_text s points) 0 0 (head_numbers s points)
  head_read = frame_reads (omega arith) refl head_fits (has_head s points)

  -- the head counts what the sheet has
  pub head_counts : HeadCounts (page_text s points) (vertex_count s) (edge_count s) (zone_count s)
  head_counts =
      record {
        vertices = head_read.numbers_read 2 (omega arith);
        edges = head_read.numbers_read 3 (omega arith);
        zones = head_read.numbers_read 4 (omega arith);
        within = kept.0.1;
      }

  -- the vertices are lines from line 1 on
  pub vertex_lines : FrameLines (page_text s points) 43 1 1 (pair_numbers s.vertices) (vertex_count s)
  vertex_lines =
      frame_lines (omega arith) (λ i. refl) (pair_fits s.vertices fit.vertices) (has_vertices s points) (ap suc head_read.end)

  -- the edges are lines from the line after the vertices on
  pub edge_lines : FrameLines (page_text s points) (edges_at s) (1 + vertex_count s) 2 (edge_numbers s.edges) (edge_count s)
  edge_lines =
      frame_lines (omega arith) (λ i. refl) (edge_fits s.edges fit.edges) (has_edges s points)
      (vertex_lines.start (vertex_count s) (le_refl (vertex_count s)))

  -- the points are lines from the line after the edges on
  pub point_lines : FrameLines (page_text s points) (points_at s) (1 + vertex_count s + edge_count s) 3 (pair_numbers points) (length points / 2)
  point_lines =
      frame_lines (omega arith) (λ i. refl) (pair_fits points fit.points) (has_points s points)
      (edge_lines.start (edge_count s) (le_refl (edge_count s)))

  -- ---- they are good

  -- line 0 is good
  head_good : GoodBefore (page_text s points) 1
  head_good j h =
      let first : 0 ≡ j = omega arith in
      subst (λ (k : ℕ). Means (is_good (page_text s points) k)) first (good_line head_counts 0 refl head_read)

  -- every line of the text is good
  pub text_lines_good : GoodBefore (page_text s points) (1 + vertex_count s + edge_count s + length points / 2)
  text_lines_good =
      good_lines head_counts (λ i h. kind_point (vertex_count s) (edge_count s) (1 + vertex_count s + edge_count s + i) (omega arith)) point_lines
      (good_lines head_counts (λ i h. kind_edge (vertex_count s) (edge_count s) (1 + vertex_count s + i) (omega arith) (omega arith)) edge_lines
      (good_lines head_counts (λ i h. kind_vertex (vertex_count s) (edge_count s) (1 + i) (omega arith) (omega arith)) vertex_lines head_good))

  -- the text ends after its lines
  pub text_ends : Means (is_end (page_text s points) (1 + vertex_count s + edge_count s + length points / 2))
  text_ends =
      good_end head_counts (length points / 2)
      (point_lines.start (length points / 2) (le_refl (length points / 2)) ∙ omega (arith, text_length s points))

  -- the text is a good page, and has as many points as it was given
  pub text_good : GoodPage (page_text s points) (length points / 2)
  text_good = good_page head_counts (length points / 2) text_lines_good text_ends

  -- ---- the reader gives the sheet and the points back

  -- the head is read back
  head_back : head_of (page_text s points) ≡ sheet_head s points
  head_back =
      λ i. record {
        west = west i;
        east = east i;
        vertices = head_counts.vertices i;
        edges = head_counts.edges i;
        zones = head_counts.zones i;
      }
    where
      west : signed_of (number_of (page_text s points) 0 0) ≡ s.west
      west = ap signed_of (head_read.numbers_read 0 (omega arith)) ∙ signed_word s.west fit.west

      east : signed_of (number_of (page_text s points) 0 1) ≡ s.east
      east = ap signed_of (head_read.numbers_read 1 (omega arith)) ∙ signed_word s.east fit.east

  -- the vertices are read back
  vertices_read : vertex_words (page_text s points) ≡ s.vertices
  vertices_read =
      (λ j. tab (λ i. signed_of (number_of (page_text s points) (1 + i / 2) (i % 2))) (2 * head_counts.vertices j))
      ∙ pairs_back vertex_lines (omega arith) fit.vertices

  -- the edges are read back
  edges_read : edge_words (page_text s points) ≡ s.edges
  edges_read =
      (λ j. tab (λ i. number_of (page_text s points) (1 + head_counts.vertices j + i / 4) (i % 4)) (4 * head_counts.edges j))
      ∙ edges_back edge_lines (omega arith)

  -- the points are read back
  points_read : point_words (page_text s points) (length points / 2) ≡ points
  points_read =
      (λ j. tab (word (1 + head_counts.vertices j + head_counts.edges j)) (2 * (length points / 2)))
      ∙ pairs_back point_lines (omega arith) fit.points
    where
      word : ℕ → ℕ → ℤ
      word k i = signed_of (number_of (page_text s points) (k + i / 2) (i % 2))

  -- tables with room for the sheet's and the points have room for the page's
  room_kept_lem : (x y z : ℕ) → length s.vertices ≤ x → length s.edges ≤ y → length points ≤ z
      → Means (room_kept (page_text s points) (length points / 2) x y z)
  room_kept_lem x y z hx hy hz =
      go (head_vertices (page_text s points)) (head_edges (page_text s points)) head_counts.vertices head_counts.edges
    where
      go : (a b : ℕ) → a ≡ vertex_count s → b ≡ edge_count s → (2 * a ≤ x) × ((4 * b ≤ y) × (2 * (length points / 2) ≤ z))
      go a b ea eb = omega arith

  -- the text, read into tables with room, gives the sheet and the points back
  pub reads_back : ReadsBack s points (page_text s points)
  reads_back vertices edges points' hv he hp =
      read_good (page_text s points) (length points / 2) vertices edges points'
      (good_judged (page_text s points) (length points / 2) text_good)
      (room_kept_lem (length vertices) (length edges) (length points') hv he hp)
      ∙ λ i. record {
        page = sheet_page (head_back i) (length points / 2);
        vertices = put (vertices_read i) vertices;
        edges = put (edges_read i) edges;
        points = put (points_read i) points';
      }
