-- The lines of a good page follow one another, so each table begins where the one before it ends.
use mathlib.Core.Path.{◌≡◌, ap, ◌∙◌}
use mathlib.Core.List.{List}
use Prim.Native.Nat.{ℕ, ◌+◌, ◌*◌, ◌/◌, ◌%◌}
use native.Mathlib.Omega.{arith}
use lib.ListN.{length}
use Rattle.subdivision.specs.Lists.{tab, put}
use Rattle.frames.specs.Digits.{signed_of}
use Rattle.frames.specs.Lines.{number_at}
use Rattle.frames.specs.Pages.{GoodPage, head_vertices, head_edges}
use Rattle.framing.proofs.PageTexts.{good_length}
use Rattle.framing.proofs.PageWords.{vertices_at, edges_at, points_at_lem}
use Rattle.pages.proofs.page_tables.read_tables.Goals as goal

-- how long a good page is, by its counts
long : (page : List ℕ) (v m count : ℕ) → GoodPage page count × ((v ≡ head_vertices page) × (m ≡ head_edges page)) → length page ≡ 43 + (19 * v + (35 * m + 19 * count))
long page v m count g = omega (arith, good_length page count g.0, g.1.0, g.1.1)

pub read_pairs-requires : goal.read_pairs-requires
read_pairs-requires c =
    (omega (arith, long c.args.page.now c.args.v c.args.m c.args.count c.requires.good_page), omega arith)

pub overflow_mul-v : goal.overflow_mul-v
overflow_mul-v c =
    record { fits = omega (arith, long c.args.page.now c.args.v c.args.m c.args.count c.requires.good_page) }

pub overflow_add-v : goal.overflow_add-v
overflow_add-v c =
    record { fits = omega (arith, long c.args.page.now c.args.v c.args.m c.args.count c.requires.good_page) }

pub read_edges-requires : goal.read_edges-requires
read_edges-requires c =
    (omega (arith, long c.args.page.now c.args.v c.args.m c.args.count c.requires.good_page), omega arith)

pub overflow_mul-v-2 : goal.overflow_mul-v-2
overflow_mul-v-2 c =
    record { fits = omega (arith, long c.args.page.now c.args.v c.args.m c.args.count c.requires.good_page) }

pub overflow_add-v-2 : goal.overflow_add-v-2
overflow_add-v-2 c =
    record { fits = omega (arith, long c.args.page.now c.args.v c.args.m c.args.count c.requires.good_page) }

pub overflow_mul-m : goal.overflow_mul-m
overflow_mul-m c =
    record { fits = omega (arith, long c.args.page.now c.args.v c.args.m c.args.count c.requires.good_page) }

pub overflow_add-v-3 : goal.overflow_add-v-3
overflow_add-v-3 c =
    record { fits = omega (arith, long c.args.page.now c.args.v c.args.m c.args.count c.requires.good_page) }

pub read_pairs-requires-2 : goal.read_pairs-requires-2
read_pairs-requires-2 c =
    (omega (arith, long c.args.page.now c.args.v c.args.m c.args.count c.requires.good_page), omega arith)

pub returns : goal.returns
returns c =
    let page = c.args.page.now in
    let good = c.requires.good_page.0 in
    let v = c.requires.good_page.1.0 in
    let m = c.requires.good_page.1.1 in
    record {
      vertices_after = c.read_pairs.ensures
          ∙ (λ i. put (tab (λ k. signed_of (number_at page (43 + 19 * (k / 2)) (k % 2))) (2 * v i)) c.args.vertices.now)
          ∙ ap (λ w. put w c.args.vertices.now) (vertices_at page c.args.count good);
      edges_after = c.read_edges.ensures
          ∙ (λ i. put (tab (λ k. number_at page (43 + 19 * v i + 35 * (k / 4)) (k % 4)) (4 * m i)) c.args.edges.now)
          ∙ ap (λ w. put w c.args.edges.now) (edges_at page c.args.count good);
      points_after = c.read_pairs-2.ensures
          ∙ (λ i. put (tab (λ k. signed_of (number_at page (43 + 19 * v i + 35 * m i + 19 * (k / 2)) (k % 2))) (2 * c.args.count)) c.args.points.now)
          ∙ ap (λ w. put w c.args.points.now) (points_at_lem page c.args.count good);
    }
