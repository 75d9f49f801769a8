-- A good page into a table that is short gives 33; into tables with room it gives its words.
use mathlib.Core.Path.{sym, ap, ◌∙◌}
use native.Mathlib.Omega.{arith}
use lib.ListN.{length}
use Rattle.subdivision.specs.Formula.{Means}
use Rattle.frames.specs.declared.Head.{Head}
use Rattle.frames.specs.Pages.{sheet_page, PageRead, room_kept}
use Rattle.framing.proofs.Judging.{good_judged, read_good, read_short}
use Rattle.framing.proofs.PageTexts.{good_length}
use Rattle.pages.proofs.Counts.{counts_of}
use Rattle.pages.proofs.read_good.Goals as goal
use Rattle.pages.proofs.read_good.Goals.{then-vertices-v-via-then-vertices-v, then-vertices-v-via-else-vertices-v+then-edges-m, then-vertices-v-via-else-vertices-v+else-edges-m+then-points-count}

pub returns-then-vertices-v : goal.returns-then-vertices-v
returns-then-vertices-v c =
    let a = c.args in
    let n = counts_of a.page.now c.read_head-head.result c.read_head-head.ensures in
    let short : Means (room_kept a.page.now a.count (length a.vertices.now) (length a.edges.now) (length a.points.now)) → ⊥ = λ m. elim c.then-vertices-v.branch [
      | then-vertices-v-via-then-vertices-v w ↦ omega (arith, m.0, n.0)
      | then-vertices-v-via-else-vertices-v+then-edges-m w ↦ omega (arith, m.1.0, n.1.0)
      | then-vertices-v-via-else-vertices-v+else-edges-m+then-points-count w ↦ omega (arith, m.1.1)
    ] in
    let e = sym (read_short a.page.now a.count a.vertices.now a.edges.now a.points.now (good_judged a.page.now a.count c.requires) short) in
    record { page = ap (λ (r : PageRead). r.page) e; vertices = ap (λ (r : PageRead). r.vertices) e; edges = ap (λ (r : PageRead). r.edges) e; points = ap (λ (r : PageRead). r.points) e }

pub overflow_mul-count : goal.overflow_mul-count
overflow_mul-count c = record { fits = omega (arith, good_length c.args.page.now c.args.count c.requires) }

pub read_tables-requires : goal.read_tables-requires
read_tables-requires c =
    let n = counts_of c.args.page.now c.read_head-head.result c.read_head-head.ensures in
    record { good_page = (c.requires, (n.0, n.1.0)); v_in_bounds = (omega arith, (omega arith, omega arith)) }

pub returns : goal.returns
returns c =
    let a = c.args in
    let w = c.read_tables.ensures in
    let n = counts_of a.page.now c.read_head-head.result c.read_head-head.ensures in
    let room : Means (room_kept a.page.now a.count (length a.vertices.now) (length a.edges.now) (length a.points.now)) = (omega (arith, n.0), (omega (arith, n.1.0), omega arith)) in
    let e = sym (read_good a.page.now a.count a.vertices.now a.edges.now a.points.now (good_judged a.page.now a.count c.requires) room) in
    record {
      page = ap (λ (d : Head). sheet_page d a.count) c.read_head-head.ensures ∙ ap (λ (r : PageRead). r.page) e;
      vertices = w.vertices_after ∙ ap (λ (r : PageRead). r.vertices) e;
      edges = w.edges_after ∙ ap (λ (r : PageRead). r.edges) e;
      points = w.points_after ∙ ap (λ (r : PageRead). r.points) e;
    }
