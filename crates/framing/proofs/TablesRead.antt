-- What the tables hold after a page was read into them: the page's sheet, and its points.
use mathlib.Core.Path.{◌≡◌, sym, subst}
use mathlib.Core.List.{List}
use Prim.Native.Nat.{ℕ, ◌*◌}
use lib.IntN.{ℤ}
use lib.ListN.{length, take, drop}
use lib.Seq.{take_at}
use Rattle.subdivision.specs.Lists.{put}
use Rattle.subdivision.specs.Sheet.{sheet_of}
use Rattle.frames.specs.declared.Head.{Head}
use Rattle.frames.specs.Pages.{PageRead, head_vertices, head_edges, head_of, vertex_words, edge_words, point_words, page_sheet, sheet_page, read_page}
use Rattle.theory.proofs.Lists.{length_tab}
use Rattle.framing.proofs.Judging.{read_good, read_sheet}

module _ (page : List ℕ) (vertices : List ℤ) (edges : List ℕ) (points : List ℤ) (head : Head) (count : ℕ) where
  -- the tables hold what the head counts of them
  abbrev Hold : Head → PageRead → Type 0
  Hold d r =
      (sheet_of d.west d.east (take (2 * d.vertices) r.vertices) (take (4 * d.edges) r.edges) d.zones ≡ page_sheet page)
      × (take (2 * count) r.points ≡ point_words page count)

  pub tables_read : (read_page page vertices edges points).page ≡ sheet_page head count → Hold head (read_page page vertices edges points)
  tables_read e =
      let r = read_sheet page vertices edges points head count e in
      subst (λ d. Hold d (read_page page vertices edges points)) r.1.0 (subst (Hold (head_of page)) (sym (read_good page count vertices edges points r.0 r.1.1)) held)
    where
      held : Hold (head_of page) (record { page = sheet_page (head_of page) count; vertices = put (vertex_words page) vertices; edges = put (edge_words page) edges; points = put (point_words page count) points })
      held =
          let vs = take_at (vertex_words page) (drop (length (vertex_words page)) vertices) (2 * head_vertices page) (length_tab _ (2 * head_vertices page)) in
          let es = take_at (edge_words page) (drop (length (edge_words page)) edges) (4 * head_edges page) (length_tab _ (4 * head_edges page)) in
          let ps = take_at (point_words page count) (drop (length (point_words page count)) points) (2 * count) (length_tab _ (2 * count)) in
          (λ i. sheet_of (head_of page).west (head_of page).east (vs i) (es i) (head_of page).zones, ps)
