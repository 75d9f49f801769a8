use mathlib.Core.Path.{◌≡◌, sym, subst, ap, ◌∙◌}
use mathlib.Core.List.{List}
use mathlib.Core.Logic.{⊎_elim}
use Prim.Native.Nat.{ℕ, suc, ◌+◌, ◌-◌}
use native.Mathlib.Numerals.{add-one}
use native.Mathlib.Omega.{arith}
use Rattle.std.proofs.Common.{rules}
use Rattle.std.specs.Prelude.{Option, Some, None, Result, Ok, Err}
use Rattle.subdivision.specs.Formula.{Means}
use Rattle.frames.specs.declared.PageRefused.{PageRefused}
use Rattle.frames.specs.Lines.{line_start}
use Rattle.frames.specs.Pages.{refused_page, judged_page, head_vertices, head_edges, is_good, is_end, GoodBefore}
use Rattle.theory.proofs.Decide.{below_suc}
use Rattle.framing.proofs.LineEnds.{line_end_from}
use Rattle.framing.proofs.Judging.{lines_within, judged_ends, judged_refuses}
use Rattle.pages.specs.Steps.{Stepped}
use Rattle.pages.proofs.Counts.{counts_of}
use Rattle.pages.proofs.judging.judge_page.Goals as goal

-- one more good line
more : (page : List ℕ) (k : ℕ) → GoodBefore page k → Means (is_good page k) → GoodBefore page (suc k)
more page k g m j h = ⊎_elim (λ (e : j ≡ k). rw e m) (g j) (below_suc h)

-- what a step says, in each of its cases
refused : (page : List ℕ) (line : ℕ) (r : Result (Option ℕ) PageRefused) (e : PageRefused) → GoodBefore page line → Stepped page line r → r ≡ Err e → Err e ≡ judged_page page
refused page line r e good said is =
    let s : Stepped page line (Err e) = subst (Stepped page line) is said in
    (λ i. refused_page (s.1.0 i) (s.0 i)) ∙ sym (judged_refuses page line good s.1.1.0 s.1.1.1)

next_good : (page : List ℕ) (line next : ℕ) (r : Result (Option ℕ) PageRefused) (o : Option ℕ) → Stepped page line r → r ≡ Ok o → o ≡ Some next
    → Means (is_good page line) × (next ≡ line_start page (suc line))
next_good page line next r o said is some = subst (λ o. Stepped page line (Ok o)) some (subst (Stepped page line) is said)

ended : (page : List ℕ) (line : ℕ) (r : Result (Option ℕ) PageRefused) (o : Option ℕ) → Stepped page line r → r ≡ Ok o → o ≡ None
    → Means (is_end page line) × (Means (is_good page line) → ⊥)
ended page line r o said is none = subst (λ o. Stepped page line (Ok o)) none (subst (Stepped page line) is said)

pub returns-in_err-next : goal.returns-in_err-next
returns-in_err-next c =
    let e : c.from_residual.result ≡ Err c.in_err-next.field-0.0 = search rules in
    e ∙ refused c.args.page.now c.loop-next.line c.judge_line.result c.in_err-next.field-0.0 c.loop-next.invariant.1 c.judge_line.ensures c.in_err-next.was

pub overflow_add-line : goal.overflow_add-line
overflow_add-line c =
    let l = c.loop-next in
    let page = c.args.page.now in
    let good = next_good page l.line c.in-Some.next c.judge_line.result c.in_ok-next.field-0 c.judge_line.ensures c.in_ok-next.was c.in-Some.is in
    let within = lines_within page (suc l.line) (more page l.line l.invariant.1 good.0) in
    record { fits = omega (arith, within.0, within.1) }

pub loop-next-smaller : goal.loop-next-smaller
loop-next-smaller c =
    let l = c.loop-next in
    let page = c.args.page.now in
    let good = next_good page l.line c.in-Some.next c.judge_line.result c.in_ok-next.field-0 c.judge_line.ensures c.in_ok-next.was c.in-Some.is in
    let within = lines_within page (suc l.line) (more page l.line l.invariant.1 good.0) in
    omega (arith, good.1, within.1, l.invariant.0.0, line_end_from page (line_start page l.line))

pub loop-next-preserved : goal.loop-next-preserved
loop-next-preserved c =
    let l = c.loop-next in
    let page = c.args.page.now in
    let good = next_good page l.line c.in-Some.next c.judge_line.result c.in_ok-next.field-0 c.judge_line.ensures c.in_ok-next.was c.in-Some.is in
    let all = more page l.line l.invariant.1 good.0 in
    let within = lines_within page (suc l.line) all in
    rw (add-one l.line) ((good.1, omega (arith, good.1, within.1)), all)

pub returns : goal.returns
returns c =
    let l = c.loop-next in
    let page = c.args.page.now in
    let head = c.read_head-head.result in
    let n = counts_of page head c.read_head-head.ensures in
    let last = ended page l.line c.judge_line.result c.in_ok-next.field-0 c.judge_line.ensures c.in_ok-next.was c.in_default.is in
    let same : l.line - 1 - head.vertices - head.edges ≡ l.line - (1 + head_vertices page + head_edges page) = omega (arith, n.0, n.1.0) in
    ap Ok same ∙ sym (judged_ends page l.line l.invariant.1 last.1 last.0)
