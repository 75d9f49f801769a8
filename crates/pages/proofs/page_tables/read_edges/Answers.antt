-- The part written over is the words of the lines; what is past it stays.
use Rattle.std.proofs.Common.{◌≡◌, ◌∙◌, sym, ap, arith, ◌*◌, ◌++◌, length, drop}
use lib.Seq.{length-take-le}
use Rattle.subdivision.specs.Lists.{tab}
use Rattle.theory.proofs.Lists.{is_tab, length_tab}
use Rattle.pages.proofs.page_tables.read_edges.Invariants.{word}
use Rattle.pages.proofs.page_tables.read_edges.Goals as goal

pub returns : goal.returns
returns c =
    let a = c.args in
    let words = word a.page.now a.at in
    let long : length c.loop-i.word-items ≡ 4 * a.count = omega (arith, length-take-le (4 * a.count) a.table.now c.requires.1) in
    let all = is_tab words 0 c.loop-i.word-items (4 * a.count) long (λ i h. c.loop-i.invariant i (omega arith)) in
    ap (λ l. l ++ drop (4 * a.count) a.table.now) all ∙ ap (λ k. tab words (4 * a.count) ++ drop k a.table.now) (sym (length_tab words (4 * a.count)))
