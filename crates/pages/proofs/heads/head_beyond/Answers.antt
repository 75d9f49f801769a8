-- What stands at the page's start tells whether line 0 is a head; its counts are the numbers at their places.
use mathlib.Core.Path.{◌≡◌, sym, ap, subst, ◌∙◌}
use mathlib.Core.Bool.{false, not}
use mathlib.Core.List.{List}
use mathlib.Core.Logic.{◌⊎◌, inl, inr}
use Prim.Native.Nat.{ℕ}
use native.Mathlib.Omega.{arith}
use borrow.Author.Tests.{not-true, not-false, ne_eqb}
use Rattle.subdivision.specs.Limits.{program_limits}
use Rattle.subdivision.specs.Formula.{Formula, holds}
use Rattle.subdivision.specs.Refusals.{counts_within_under}
use Rattle.frames.specs.declared.Head.{Head}
use Rattle.frames.specs.declared.Line.{Line}
use Rattle.frames.specs.declared.Line.TheVariants.{Malformed, Unfinished, End}
use Rattle.frames.specs.Lines.{line_at}
use Rattle.frames.specs.Pages.{head_vertices, head_edges, head_zones}
use Rattle.frames.specs.Placing.{head_beyond}
use Rattle.theory.proofs.Decide.{means, denies, fails, computes}
use Rattle.framing.proofs.LineEnds.{LineSaid, line_said, line_end_from}
use Rattle.pages.proofs.heads.head_beyond.Goals as goal

-- the counts of a page's head are no more than the program holds
abbrev kept : List ℕ → Formula
kept page = counts_within_under program_limits (head_vertices page) (head_edges page) (head_zones page)

-- what is known of the page's start from what the reader says of it
told : (page : List ℕ) (r l : Line) → r ≡ line_at page 0 → r ≡ l → LineSaid page 0 l
told page r l said e = subst (LineSaid page 0) (sym said ∙ e) (line_said page 0)

-- where no frame stands there is no head
no_frame : (page : List ℕ) (r : Line) → r ≡ line_at page 0 → (r ≡ Malformed) ⊎ ((r ≡ Unfinished) ⊎ (r ≡ End)) → false ≡ holds (head_beyond page)
no_frame page r said (inl e) = sym (fails (head_beyond page) (λ m. (told page r Malformed said e).1 m.1.0))
no_frame page r said (inr (inl e)) = let l = told page r Unfinished said e in sym (fails (head_beyond page) (λ m. omega (arith, l.1, m.0)))
no_frame page r said (inr (inr e)) = let l = told page r End said e in sym (fails (head_beyond page) (λ m. omega (arith, l, m.0, line_end_from page 0)))

pub returns-then-kind-eq0 : goal.returns-then-kind-eq0
returns-then-kind-eq0 c =
    let page = c.args.page.now in
    let l = told page c.read_line.result _ c.read_line.ensures c.in-Frame.is in
    let order = sym l.1.1.0 ∙ c.if-kind-eq0.true in
    let within : c.counts_held.result ≡ holds (kept page) = c.counts_held.ensures ∙ ap (λ (h : Head). holds (counts_within_under program_limits h.vertices h.edges h.zones)) c.read_head-vertices.ensures in
    computes (head_beyond page) (not c.counts_held.result)
    (λ e. (l.0, (l.1.0, (order, denies (kept page) (sym within ∙ not-true c.counts_held.result e)))))
    (λ e m. m.1.1.1 (means (kept page) (sym within ∙ not-false c.counts_held.result e)))

pub returns-else-kind-eq0 : goal.returns-else-kind-eq0
returns-else-kind-eq0 c =
    let page = c.args.page.now in
    let l = told page c.read_line.result _ c.read_line.ensures c.in-Frame.is in
    let never = fails (head_beyond page) (λ m. c.if-kind-eq0.false (l.1.1.0 ∙ m.1.1.0)) in
    ne_eqb c.in-Frame.kind 0 c.if-kind-eq0.false ∙ sym never

pub returns-in-Malformed : goal.returns-in-Malformed
returns-in-Malformed c = no_frame c.args.page.now c.read_line.result c.read_line.ensures c.in-Malformed.is
