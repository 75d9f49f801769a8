-- Good lines: what each is, and where it begins and ends.
use mathlib.Core.Path.{◌≡◌, ap, ◌∙◌}
use mathlib.Core.List.{List}
use Prim.Native.Nat.{ℕ, zero, suc, ◌+◌, ◌*◌, ◌<◌, ◌≤◌}
use native.Mathlib.Nat.{le_refl, add-zero, add-suc}
use native.Mathlib.Omega.{arith}
use lib.ListN.{get_or}
use Rattle.subdivision.specs.Formula.{Means}
use Rattle.frames.specs.Digits.{is_digit}
use Rattle.frames.specs.Lines.{newline, frame_length, line_end, line_start, kind_at}
use Rattle.frames.specs.Pages.{head_vertices, head_edges, wanted_kind, is_good, GoodBefore}
use Rattle.framing.proofs.LineKinds.{kind_vertex, kind_edge, kind_point}
use Rattle.framing.proofs.LineEnds.{line_end_from, line_end_newline}

module _ (page : List ℕ) where
  -- ---- a good line

  -- the kind that a good line says is the one that it is to be of
  pub good_kind : (k : ℕ) → Means (is_good page k) → kind_at page (line_start page k) ≡ wanted_kind page k
  good_kind k good = good.1.1.0

  -- a good line is as long as its kind says
  pub good_end : (k : ℕ) → Means (is_good page k) → line_end page (line_start page k) ≡ line_start page k + frame_length (wanted_kind page k)
  good_end k good = omega (arith, line_end_from page (line_start page k), good.1.0.1.1 ∙ ap frame_length (good_kind k good))

  -- the bytes of a good line are digits
  pub good_digits : (k : ℕ) → Means (is_good page k) → (i : ℕ) → i < frame_length (wanted_kind page k)
      → Means (is_digit (get_or page (line_start page k + i) 0))
  good_digits k good i h = good.1.0.0 i (omega (arith, good_end k good))

  -- past its digits a good line has its newline
  pub good_newline : (k : ℕ) → Means (is_good page k) → get_or page (line_start page k + frame_length (wanted_kind page k)) 0 ≡ newline
  good_newline k good = rw (good_end k good) at (line_end_newline page (line_start page k) good.0)

  -- the line after a good one begins past its newline
  pub good_next : (k : ℕ) → Means (is_good page k) → line_start page (suc k) ≡ line_start page k + frame_length (wanted_kind page k) + 1
  good_next k good = omega (arith, good_end k good)

  -- ---- the kinds that lines are to be of

  -- line 1 + i, up to the last of the vertices, is to be a vertex
  pub wanted_vertex : (i : ℕ) → i < head_vertices page → wanted_kind page (1 + i) ≡ 1
  wanted_vertex i h = kind_vertex (head_vertices page) (head_edges page) (1 + i) (omega arith) (omega arith)

  -- line 1 + V + j, up to the last of the edges, is to be an edge
  pub wanted_edge : (j : ℕ) → j < head_edges page → wanted_kind page (1 + head_vertices page + j) ≡ 2
  wanted_edge j h = kind_edge (head_vertices page) (head_edges page) (1 + head_vertices page + j) (omega arith) (omega arith)

  -- line 1 + V + m + p is to be a point
  pub wanted_point : (p : ℕ) → wanted_kind page (1 + head_vertices page + head_edges page + p) ≡ 3
  wanted_point p = kind_point (head_vertices page) (head_edges page) (1 + head_vertices page + head_edges page + p) (omega arith)

  -- ---- where lines begin

  -- past so many good lines of one kind the next begins as many lengths on
  pub run_start : (first kind count : ℕ) → ((i : ℕ) → i < count → wanted_kind page (first + i) ≡ kind) → GoodBefore page (first + count)
      → line_start page (first + count) ≡ line_start page first + (frame_length kind + 1) * count
  run_start first kind zero wanted good = rw add-zero (omega arith)
  run_start first kind (suc count) wanted good =
      let before = run_start first kind count (λ i h. wanted i (omega arith)) (λ i h. good i (omega arith)) in
      let last = good_next (first + count) (good (first + count) (omega arith)) in
      rw (add-suc first count) (omega (arith, rw (wanted count (omega arith)) at last))

  -- line 1 begins past the head
  pub head_line : GoodBefore page 1 → line_start page 1 ≡ 43
  head_line good = good_next 0 (good 0 (omega arith))

  -- line 1 + i, up to the one past the vertices, begins past the head and i vertices
  pub vertex_line : (i : ℕ) → i ≤ head_vertices page → GoodBefore page (1 + i) → line_start page (1 + i) ≡ 43 + 19 * i
  vertex_line i h good =
      run_start 1 1 i (λ j l. wanted_vertex j (omega arith)) good
      ∙ rw (head_line (λ k l. good k (omega arith)))

  -- line 1 + V + j, up to the one past the edges, begins past the head, V vertices and j edges
  pub edge_line : (j : ℕ) → j ≤ head_edges page → GoodBefore page (1 + head_vertices page + j)
      → line_start page (1 + head_vertices page + j) ≡ 43 + 19 * head_vertices page + 35 * j
  edge_line j h good =
      run_start (1 + head_vertices page) 2 j (λ i l. wanted_edge i (omega arith)) good
      ∙ rw (vertex_line (head_vertices page) (le_refl (head_vertices page)) (λ k l. good k (omega arith)))

  -- line 1 + V + m + p begins past the head, V vertices, m edges and p points
  pub point_line : (p : ℕ) → GoodBefore page (1 + head_vertices page + head_edges page + p)
      → line_start page (1 + head_vertices page + head_edges page + p) ≡ 43 + 19 * head_vertices page + 35 * head_edges page + 19 * p
  point_line p good =
      run_start (1 + head_vertices page + head_edges page) 3 p (λ i l. wanted_point i) good
      ∙ rw (edge_line (head_edges page) (le_refl (head_edges page)) (λ k l. good k (omega arith)))
