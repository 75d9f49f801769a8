-- Each refusal leaves the text as it was; a page with room is written whole.
use Rattle.std.proofs.Common.{◌≤◌, length, arith, rules, refl, sym, ◌∙◌}
use Rattle.subdivision.specs.Formula.{Means}
use Rattle.subdivision.specs.Refusals.{counts_kept}
use Rattle.frames.specs.Texts.{page_text, writable_counts}
use Rattle.tables.specs.Lent.{lent}
use Rattle.theory.proofs.Decide.{means, denies}
use Rattle.framing.proofs.FrameLengths.{text_length}
use Rattle.writer.proofs.Promises.{refused_1, refused_33, refusing, writing}
use Rattle.writer.proofs.write_page.Goals as goal
use Rattle.writer.proofs.write_page.Goals.{then-not-counts_kept-via-then-not-counts_kept, then-not-counts_kept-via-else-not-counts_kept+then-points-ne0, then-text-points-via-then-text-points, then-text-points-via-else-text-points+then-text-points-2}

pub returns-then-not-counts_kept : goal.returns-then-not-counts_kept
returns-then-not-counts_kept c =
    let s = lent c.args.sheet in
    let points = c.args.points.now in
    let broken : Means (writable_counts s points) → ⊥ = λ m. elim c.then-not-counts_kept.branch [
      | then-not-counts_kept-via-then-not-counts_kept w ↦ denies (counts_kept s) (sym c.counts_kept.ensures ∙ w.if-not-counts_kept.true) m.0
      | then-not-counts_kept-via-else-not-counts_kept+then-points-ne0 w ↦ w.if-points-ne0.true m.1
    ] in
    let p = refusing s points c.args.text.now 1 (refused_1 s points c.args.text.now broken) _ refl in
    search rules

pub returns-then-text-points : goal.returns-then-text-points
returns-then-text-points c =
    let s = lent c.args.sheet in
    let points = c.args.points.now in
    let k : Means (writable_counts s points) = (means (counts_kept s) (sym c.counts_kept.ensures ∙ c.if-not-counts_kept.false), c.if-points-ne0.false) in
    let short : length (page_text s points) ≤ length c.args.text.now → ⊥ = λ r. elim c.then-text-points.branch [
      | then-text-points-via-then-text-points w ↦ omega (arith, r, text_length s points)
      | then-text-points-via-else-text-points+then-text-points-2 w ↦ omega (arith, r, text_length s points, c.vertex_count.ensures, c.edge_count.ensures)
    ] in
    let p = refusing s points c.args.text.now 33 (refused_33 s points c.args.text.now k short) _ refl in
    search rules

pub put_page-requires : goal.put_page-requires
put_page-requires c =
    let s = lent c.args.sheet in
    let k : Means (writable_counts s c.args.points.now) = (means (counts_kept s) (sym c.counts_kept.ensures ∙ c.if-not-counts_kept.false), c.if-points-ne0.false) in
    record { means = k; points_in_bounds = omega (arith, text_length s c.args.points.now, c.vertex_count.ensures, c.edge_count.ensures) }

pub returns : goal.returns
returns c =
    let w = c.put_page in
    let s = lent c.args.sheet in
    let k : Means (writable_counts s c.args.points.now) = (means (counts_kept s) (sym c.counts_kept.ensures ∙ c.if-not-counts_kept.false), c.if-points-ne0.false) in
    let p = writing s c.args.points.now c.args.text.now k (omega (arith, text_length s c.args.points.now, c.vertex_count.ensures, c.edge_count.ensures)) w.ensures.words_fit _ _ w.ensures.value w.ensures.text_after _ refl in
    search rules
