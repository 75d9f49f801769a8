-- The judgement decides: its refusal is given with nothing written, and a good page is read.
use mathlib.Core.Path.{◌≡◌, sym, ap, subst, ◌∙◌}
use mathlib.Core.List.{List}
use mathlib.Core.Logic.{◌↔◌}
use Prim.Native.Nat.{ℕ}
use lib.IntN.{ℤ}
use lib.ListN.{length}
use Rattle.std.proofs.Common.{rules}
use Rattle.std.specs.Prelude.{Result, Err}
use Rattle.frames.specs.declared.Head.{Head}
use Rattle.frames.specs.declared.PageContents.{PageContents}
use Rattle.frames.specs.declared.PageRefused.{PageRefused}
use Rattle.frames.specs.Pages.{refused_page, sheet_page, PageRead, read_page, PageRefuses}
use Rattle.frames.specs.Texts.{OneText}
use Rattle.framing.proofs.Judging.{judged_good, read_refused}
use Rattle.pages.proofs.Promises.{refused_exactly, untouched, one_text}
use Rattle.pages.proofs.read_page.Goals as goal

-- all that is promised of an answer and tables
abbrev Promised : List ℕ → List ℤ → List ℕ → List ℤ → Result PageContents PageRefused → List ℤ → List ℕ → List ℤ → Type 0
Promised page lent_vertices lent_edges lent_points r vertices edges points =
    ((number line : ℕ) → (r ≡ refused_page number line) ↔ PageRefuses page (length lent_vertices) (length lent_edges) (length lent_points) number line)
    × (((number line : ℕ) → r ≡ refused_page number line → (vertices ≡ lent_vertices) × ((edges ≡ lent_edges) × (points ≡ lent_points)))
    × ((head : Head) (count : ℕ) → r ≡ sheet_page head count → OneText page head count vertices edges points))

-- the promises follow from the equations
promised : (page : List ℕ) (lent_vertices : List ℤ) (lent_edges : List ℕ) (lent_points : List ℤ) (r : Result PageContents PageRefused) (vertices : List ℤ) (edges : List ℕ) (points : List ℤ)
    → r ≡ (read_page page lent_vertices lent_edges lent_points).page → vertices ≡ (read_page page lent_vertices lent_edges lent_points).vertices
    → edges ≡ (read_page page lent_vertices lent_edges lent_points).edges → points ≡ (read_page page lent_vertices lent_edges lent_points).points
    → Promised page lent_vertices lent_edges lent_points r vertices edges points
promised page lent_vertices lent_edges lent_points r vertices edges points e v m p =
    subst (λ (q : PageRead). Promised page lent_vertices lent_edges lent_points q.page q.vertices q.edges q.points) (λ i. record { page = sym e i; vertices = sym v i; edges = sym m i; points = sym p i })
    (refused_exactly page lent_vertices lent_edges lent_points, (untouched page lent_vertices lent_edges lent_points, one_text page lent_vertices lent_edges lent_points))

pub read_good-requires : goal.read_good-requires
read_good-requires c = judged_good c.args.page.now _ (sym c.judge_page.ensures ∙ c.in_ok-count.was)

pub returns-in_err-count : goal.returns-in_err-count
returns-in_err-count c =
    let a = c.args in
    let r : PageRefused = c.in_err-count.field-0.0 in
    let said : c.from_residual.result ≡ Err r = search rules in
    let e = sym (read_refused a.page.now r.number r.line a.vertices.now a.edges.now a.points.now (sym c.judge_page.ensures ∙ c.in_err-count.was)) in
    let page = said ∙ ap (λ (r : PageRead). r.page) e in
    let vertices = ap (λ (r : PageRead). r.vertices) e in
    let edges = ap (λ (r : PageRead). r.edges) e in
    let points = ap (λ (r : PageRead). r.points) e in
    let p = promised a.page.now a.vertices.now a.edges.now a.points.now _ _ _ _ page vertices edges points in
    record { page = page; vertices = vertices; edges = edges; points = points; refused = p.0; untouched = p.1.0; one_text = p.1.1 }

pub returns : goal.returns
returns c =
    let a = c.args in
    let w = c.read_good.ensures in
    let p = promised a.page.now a.vertices.now a.edges.now a.points.now _ _ _ _ w.page w.vertices w.edges w.points in
    record { page = w.page; vertices = w.vertices; edges = w.edges; points = w.points; refused = p.0; untouched = p.1.0; one_text = p.1.1 }
