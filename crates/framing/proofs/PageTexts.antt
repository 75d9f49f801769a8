-- A good page is the text of the sheet and the points that it holds.
use mathlib.Core.Path.{◌≡◌, sym, ap, ap₂, ◌∙◌}
use mathlib.Core.List.{List, ◌++◌}
use Prim.Native.Nat.{ℕ, ◌+◌, ◌*◌, ◌/◌}
use native.Mathlib.Nat.{le_refl}
use native.Mathlib.Omega.{arith}
use lib.IntN.{ℤ}
use lib.ListN.{length}
use Rattle.subdivision.specs.Sheet.{vertex_count, edge_count}
use Rattle.frames.specs.Pages.{head_vertices, head_edges, vertex_words, edge_words, point_words, page_sheet, GoodBefore, GoodPage}
use Rattle.frames.specs.Texts.{frame_text, frames_text, pair_numbers, edge_numbers, head_numbers, page_text}
use Rattle.framing.proofs.Slices.{slice_of, slice_join, whole_slice}
use Rattle.framing.proofs.LineLayout.{wanted_vertex, wanted_edge, wanted_point, head_line, vertex_line, edge_line, point_line}
use Rattle.framing.proofs.LineTexts.{line_text, run_text}
use Rattle.framing.proofs.PageTables.{head_numbers_lem, pair_frames, four_frames}

module _ (page : List ℕ) where
  -- the page begins with the frame of its sheet's head
  head_part : (points : List ℤ) → GoodBefore page 1 → slice_of page 43 0 ≡ frame_text 0 (head_numbers (page_sheet page) points)
  head_part points good = line_text page 0 (good 0 (omega arith)) ∙ ap (frame_text 0) (sym (head_numbers_lem page points))

  -- past the head stand the frames of its sheet's vertices
  vertex_part : GoodBefore page (1 + head_vertices page)
      → slice_of page (19 * head_vertices page) 43 ≡ frames_text 1 (pair_numbers (vertex_words page)) (vertex_count (page_sheet page))
  vertex_part good =
      let start = head_line page (λ k h. good k (omega arith)) in
      rw start at (run_text page 1 1 (head_vertices page) (wanted_vertex page) good)
      ∙ pair_frames page 1 1 (head_vertices page)

  -- past the vertices stand the frames of its sheet's edges
  edge_part_lem : GoodBefore page (1 + head_vertices page + head_edges page)
      → slice_of page (35 * head_edges page) (43 + 19 * head_vertices page)
      ≡ frames_text 2 (edge_numbers (edge_words page)) (edge_count (page_sheet page))
  edge_part_lem good =
      let start = vertex_line page (head_vertices page) (le_refl (head_vertices page)) (λ k h. good k (omega arith)) in
      rw start at (run_text page (1 + head_vertices page) 2 (head_edges page) (wanted_edge page) good)
      ∙ four_frames page 2 (1 + head_vertices page) (head_edges page)

  -- past the edges stand the frames of its points
  point_part_lem : (count : ℕ) → GoodBefore page (1 + head_vertices page + head_edges page + count)
      → slice_of page (19 * count) (43 + 19 * head_vertices page + 35 * head_edges page)
      ≡ frames_text 3 (pair_numbers (point_words page count)) (length (point_words page count) / 2)
  point_part_lem count good =
      let start = edge_line page (head_edges page) (le_refl (head_edges page)) (λ k h. good k (omega arith)) in
      rw start at (run_text page (1 + head_vertices page + head_edges page) 3 count (λ i h. wanted_point page i) good)
      ∙ pair_frames page 3 (1 + head_vertices page + head_edges page) count

  -- a good page is as long as its head, vertices, edges and points
  pub good_length : (count : ℕ) → GoodPage page count → length page ≡ 43 + (19 * head_vertices page + (35 * head_edges page + 19 * count))
  good_length count (good, end) = omega (arith, point_line page count good, end.0)

  -- a good page is the text of the sheet and the points that it holds
  pub good_text : (count : ℕ) → GoodPage page count → page ≡ page_text (page_sheet page) (point_words page count)
  unfolding page_text
  good_text count (good, end) =
      whole_slice page
      ∙ ap (λ n. slice_of page n 0) (good_length count (good, end))
      ∙ slice_join page 43 (vertices + (edges + points)) 0
      ∙ ap₂ ◌++◌ (head_part (point_words page count) (λ k h. good k (omega arith)))
      (slice_join page vertices (edges + points) 43
      ∙ ap₂ ◌++◌ (vertex_part (λ k h. good k (omega arith)))
      (slice_join page edges points (43 + vertices) ∙ ap₂ ◌++◌ (edge_part_lem (λ k h. good k (omega arith))) (point_part_lem count good)))
    where
      vertices : ℕ
      vertices = 19 * head_vertices page

      edges : ℕ
      edges = 35 * head_edges page

      points : ℕ
      points = 19 * count

-- two good pages with the same sheet and the same points are one text
pub one_text : (p q : List ℕ) (a b : ℕ) → GoodPage p a → GoodPage q b
    → page_sheet p ≡ page_sheet q → point_words p a ≡ point_words q b → p ≡ q
one_text p q a b good other sheet points = good_text p a good ∙ ap₂ page_text sheet points ∙ sym (good_text q b other)
