-- A kind out of order is 31; a head whose counts break the limits is 1; any other well-made line is good.
use mathlib.Core.Path.{◌≡◌, refl, sym, ap, ◌∙◌}
use mathlib.Core.List.{List}
use Prim.Native.Nat.{ℕ}
use Rattle.subdivision.specs.Formula.{Means, holds}
use Rattle.subdivision.specs.Refusals.{counts_within}
use Rattle.frames.specs.declared.Head.{Head}
use Rattle.frames.specs.Pages.{kind_in_order, head_vertices, head_edges, head_zones, head_of, wanted_kind, is_in_order, keeps_limits}
use Rattle.theory.proofs.Decide.{means, denies}
use Rattle.framing.proofs.Judging.{refused_31, refused_1}
use Rattle.pages.proofs.judging.judge_frame.Goals as goal
use Rattle.pages.proofs.judging.judge_frame.Goals.{else-line-eq0-via-then-line-eq0+else-not-counts_within, else-line-eq0-via-else-line-eq0}

-- the kind that the line is to be of, by the head
wanted : (page : List ℕ) (head : Head) (line r : ℕ) → head ≡ head_of page → r ≡ kind_in_order head.vertices head.edges line → r ≡ wanted_kind page line
wanted page head line r e said = said ∙ ap (λ (h : Head). kind_in_order h.vertices h.edges line) e

pub returns-then-kind-kind_in_order : goal.returns-then-kind-kind_in_order
returns-then-kind-kind_in_order c =
    let a = c.args in
    let kind = wanted a.page.now a.head a.line c.kind_in_order.result c.requires.head_value c.kind_in_order.ensures in
    (refl, refused_31 a.page.now a.line c.requires.means.0 c.requires.means.1 (λ o. c.if-kind-kind_in_order.true (c.requires.kind_value.0 ∙ o ∙ sym kind)))

pub returns-then-not-counts_within : goal.returns-then-not-counts_within
returns-then-not-counts_within c =
    let a = c.args in
    let kind = wanted a.page.now a.head a.line c.kind_in_order.result c.requires.head_value c.kind_in_order.ensures in
    let order : Means (is_in_order a.page.now a.line) = sym c.requires.kind_value.0 ∙ c.if-kind-kind_in_order.false ∙ kind in
    let said = c.counts_within.ensures ∙ ap (λ (h : Head). holds (counts_within h.vertices h.edges h.zones)) c.requires.head_value in
    let broken = denies (counts_within (head_vertices a.page.now) (head_edges a.page.now) (head_zones a.page.now)) (sym said ∙ c.if-not-counts_within.true) in
    (refl, refused_1 a.page.now a.line c.requires.means.0 c.requires.means.1 order (λ l. broken (l c.if-line-eq0.true)))

pub returns : goal.returns
returns c =
    let a = c.args in
    let kind = wanted a.page.now a.head a.line c.kind_in_order.result c.requires.head_value c.kind_in_order.ensures in
    let order : Means (is_in_order a.page.now a.line) = sym c.requires.kind_value.0 ∙ c.if-kind-kind_in_order.false ∙ kind in
    let limits : Means (keeps_limits a.page.now a.line) = elim c.else-line-eq0.branch [
      | else-line-eq0-via-then-line-eq0+else-not-counts_within w ↦ λ e.
          means (counts_within (head_vertices a.page.now) (head_edges a.page.now) (head_zones a.page.now))
          (sym (w.counts_within.ensures ∙ ap (λ (h : Head). holds (counts_within h.vertices h.edges h.zones)) c.requires.head_value) ∙ w.if-not-counts_within.false)
      | else-line-eq0-via-else-line-eq0 w ↦ λ e. absurd (w.if-line-eq0.false e)
    ] in
    ((c.requires.means.0, (c.requires.means.1, (order, limits))), c.requires.kind_value.1)
