-- Where the tables of a good page stand in it: its lines follow one another with no gap.
use mathlib.Core.Path.{◌≡◌, sym, ap}
use mathlib.Core.List.{List}
use Prim.Native.Nat.{ℕ, ◌+◌, ◌*◌, ◌/◌, ◌%◌, ◌≤◌}
use native.Mathlib.Omega.{arith}
use Rattle.subdivision.specs.Lists.{tab}
use Rattle.frames.specs.Digits.{signed_of}
use Rattle.frames.specs.Lines.{number_at}
use Rattle.frames.specs.Pages.{head_vertices, head_edges, vertex_words, edge_words, point_words, GoodBefore, GoodPage}
use Rattle.theory.proofs.Lists.{tab_same}
use Rattle.framing.proofs.LineLayout.{vertex_line, edge_line, point_line}

module _ (page : List ℕ) (count : ℕ) (good : GoodPage page count) where
  -- every line before one of the page's is good
  before : (k : ℕ) → k ≤ 1 + head_vertices page + head_edges page + count → GoodBefore page k
  before k h j l = good.0 j (omega arith)

  -- the vertices begin past the head
  pub vertices_at : tab (λ i. signed_of (number_at page (43 + 19 * (i / 2)) (i % 2))) (2 * head_vertices page) ≡ vertex_words page
  vertices_at =
      tab_same _ _ (2 * head_vertices page) (λ i h. ap (λ at. signed_of (number_at page at (i % 2))) (sym (vertex_line page (i / 2) (omega arith) (before (1 + i / 2) (omega arith)))))

  -- the edges begin past the vertices
  pub edges_at : tab (λ i. number_at page (43 + 19 * head_vertices page + 35 * (i / 4)) (i % 4)) (4 * head_edges page) ≡ edge_words page
  edges_at =
      tab_same _ _ (4 * head_edges page) (λ i h. ap (λ at. number_at page at (i % 4)) (sym (edge_line page (i / 4) (omega arith) (before (1 + head_vertices page + i / 4) (omega arith)))))

  -- the points begin past the edges
  pub points_at_lem
      : tab (λ i. signed_of (number_at page (43 + 19 * head_vertices page + 35 * head_edges page + 19 * (i / 2)) (i % 2))) (2 * count) ≡ point_words page count
  points_at_lem =
      tab_same _ _ (2 * count) (λ i h. ap (λ at. signed_of (number_at page at (i % 2))) (sym (point_line page (i / 2) (before (1 + head_vertices page + head_edges page + i / 2) (omega arith)))))
