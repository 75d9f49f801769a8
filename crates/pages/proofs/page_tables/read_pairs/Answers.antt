-- The part written over is the words of the lines; what is past it stays.
use Rattle.std.proofs.Common.{◌≡◌, ◌∙◌, sym, ap, arith, pos, ◌+◌, ◌*◌, ◌/◌, ◌%◌, ◌++◌, ◌<◌, List, ℕ, ℤ, length, get_or, drop}
use Rattle.std.proofs.lemmas.Grind.{common_steps}
use lib.ListN.{set}
use mir.Syntax.{w32}
use mir.Val.{to_z, of_z}
use lib.Seq.{length-take-le}
use Rattle.subdivision.specs.Lists.{tab}
use Rattle.frames.specs.Digits.{number, signed_of}
use Rattle.theory.proofs.Lists.{is_tab, length_tab}
use Rattle.framing.proofs.ReadDigits.{word_below}
use Rattle.framing.proofs.Signs.{signed_kept}
use Rattle.pages.proofs.page_tables.read_pairs.Invariants.{word}
use Rattle.pages.proofs.page_tables.read_pairs.Goals as goal

-- the next word is written after those before it
next_written : (f : ℕ → ℤ) (l : List ℤ) (i : ℕ) (v : ℤ) → v ≡ f i → ((j : ℕ) → j < i → get_or l j (pos 0) ≡ f j) → i < length l
    → (j : ℕ) → j < i + 1 → get_or (set l i v) j (pos 0) ≡ f j
next_written f l i v e before h j k = grind (arith, common_steps, before j, e)

pub loop-i-preserved : goal.loop-i-preserved
loop-i-preserved c =
    let a = c.args in
    let i = c.loop-i.i in
    let place = a.at + 19 * (i / 2) + (2 + 8 * (i % 2)) in
    let value : c.signed_of.result ≡ word a.page.now a.at i = c.signed_of.ensures ∙ ap signed_of c.number.ensures in
    let kept : to_z w32 (of_z w32 c.signed_of.result) ≡ word a.page.now a.at i = signed_kept (number a.page.now place 8) c.signed_of.result (word_below a.page.now place) value in
    next_written (word a.page.now a.at) c.loop-i.word-items i _ kept c.loop-i.invariant (omega arith)

pub returns : goal.returns
returns c =
    let a = c.args in
    let words = word a.page.now a.at in
    let long : length c.loop-i.word-items ≡ 2 * a.count = omega (arith, length-take-le (2 * a.count) a.table.now c.requires.1) in
    let all = is_tab words (pos 0) c.loop-i.word-items (2 * a.count) long (λ i h. c.loop-i.invariant i (omega arith)) in
    ap (λ l. l ++ drop (2 * a.count) a.table.now) all ∙ ap (λ k. tab words (2 * a.count) ++ drop k a.table.now) (sym (length_tab words (2 * a.count)))
