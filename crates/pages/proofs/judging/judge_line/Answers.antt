-- What stands where the line begins tells which step it is.
use mathlib.Core.Path.{◌≡◌, refl, sym, subst, ◌∙◌}
use mathlib.Core.List.{List}
use Prim.Native.Nat.{ℕ}
use native.Mathlib.Omega.{arith}
use Rattle.subdivision.specs.Formula.{Means}
use Rattle.frames.specs.declared.Line.{Line}
use Rattle.frames.specs.Lines.{line_at, line_start}
use Rattle.frames.specs.Pages.{is_end}
use Rattle.framing.proofs.LineEnds.{LineSaid, line_said, line_end_from}
use Rattle.framing.proofs.Judging.{refused_30, refused_32, whole_not_end}
use Rattle.pages.proofs.Counts.{counts_of}
use Rattle.pages.proofs.judging.judge_line.Goals as goal

-- what is known of the place where a line begins from what the reader says of it
told : (page : List ℕ) (at line : ℕ) (r l : Line) → at ≡ line_start page line → r ≡ line_at page at → r ≡ l → LineSaid page (line_start page line) l
told page at line r l place said e =
    subst (λ at. LineSaid page at l) place (subst (LineSaid page at) (sym said ∙ e) (line_said page at))

pub judge_frame-requires : goal.judge_frame-requires
judge_frame-requires c =
    let l = told c.args.page.now c.args.at c.args.line c.read_line.result _ c.requires.at_value.0 c.read_line.ensures c.in-Frame.is in
    record { head_value = c.requires.head_value; means = (l.0, l.1.0); kind_value = (l.1.1.0, l.1.1.1) }

pub returns-in-Malformed : goal.returns-in-Malformed
returns-in-Malformed c =
    let l = told c.args.page.now c.args.at c.args.line c.read_line.result _ c.requires.at_value.0 c.read_line.ensures c.in-Malformed.is in
    (refl, refused_30 c.args.page.now c.args.line l.0 l.1)

pub returns-in-Unfinished : goal.returns-in-Unfinished
returns-in-Unfinished c =
    let l = told c.args.page.now c.args.at c.args.line c.read_line.result _ c.requires.at_value.0 c.read_line.ensures c.in-Unfinished.is in
    (refl, refused_32 c.args.page.now c.args.line (λ w. omega (arith, l.1, w)) (λ e. omega (arith, l.0, e.0)))

pub returns-in-End : goal.returns-in-End
returns-in-End c =
    let page = c.args.page.now in
    let l = told page c.args.at c.args.line c.read_line.result _ c.requires.at_value.0 c.read_line.ensures c.in-End.is in
    let n = counts_of page c.args.head c.requires.head_value in
    (refl, refused_32 page c.args.line (λ w. omega (arith, l, w, line_end_from page (line_start page c.args.line))) (λ e. omega (arith, e.1, n.0, n.1.0)))

pub returns-in-End-2 : goal.returns-in-End-2
returns-in-End-2 c =
    let page = c.args.page.now in
    let l = told page c.args.at c.args.line c.read_line.result _ c.requires.at_value.0 c.read_line.ensures c.in-End.is in
    let n = counts_of page c.args.head c.requires.head_value in
    let end : Means (is_end page c.args.line) = (omega (arith, l, c.requires.at_value.0, c.requires.at_value.1), omega (arith, n.0, n.1.0)) in
    (end, λ g. whole_not_end page c.args.line g.0 end)
