use mathlib.Core.Path.{◌≡◌, refl, ap, ◌∙◌}
use mathlib.Core.List.{List, [], ◌∷◌}
use mathlib.Core.Logic.{⊎_elim}
use Prim.Native.Nat.{ℕ, suc, ◌<◌, ◌+◌, ◌*◌}
use native.Mathlib.Numerals.{add-one}
use native.Mathlib.Omega.{arith}
use borrow.Author.Rules.{sfits_of}
use lib.IntN.{ℤ, pos}
use lib.ListN.{get_or}
use lib.Signed.{mag}
use mir.Syntax.{w32}
use mir.Facts.{to_z-of_z}
use Rattle.subdivision.specs.Limits.{origin}
use Rattle.subdivision.specs.Lists.{over}
use Rattle.frames.specs.Digits.{word_of}
use Rattle.frames.specs.Texts.{frame_text, pair_numbers}
use Rattle.theory.proofs.Decide.{below_suc}
use Rattle.framing.proofs.WrittenFrames.{frames_next}
use Rattle.writer.proofs.lines.put_pairs.Goals as goal

-- two more words that fit
two_more : (table : List ℤ) (i : ℕ) → ((k : ℕ) → k < 2 * i → mag (get_or table k (pos 0)) < origin)
    → mag (get_or table (2 * i) (pos 0)) < origin → mag (get_or table (2 * i + 1) (pos 0)) < origin
    → (k : ℕ) → k < 2 * (i + 1) → mag (get_or table k (pos 0)) < origin
two_more table i before x y k h =
    ⊎_elim (λ (e : k ≡ 2 * i + 1). rw e y) (λ l. ⊎_elim (λ (e : k ≡ 2 * i). rw e x) (before k) (below_suc (rw (add-one (2 * i)) at l))) (below_suc last)
  where
    last : k < suc (2 * i + 1)
    last = omega arith

pub loop-i-preserved : goal.loop-i-preserved
loop-i-preserved c =
    let l = c.loop-i in
    let a = c.args in
    let t = a.text.now in
    let x_fits : mag (get_or a.table.now (2 * l.i) (pos 0)) < origin = omega arith in
    let y_fits : mag (get_or a.table.now (2 * l.i + 1) (pos 0)) < origin = omega arith in
    let x = c.word_of.ensures ∙ ap word_of (to_z-of_z {w = w32} {z = get_or a.table.now (2 * l.i) (pos 0)} (sfits_of x_fits)) in
    let y = c.word_of-in-loop-i.ensures ∙ ap word_of (to_z-of_z {w = w32} {z = get_or a.table.now (2 * l.i + 1) (pos 0)} (sfits_of y_fits)) in
    record {
      place = omega (arith, c.put_frame.ensures.value, l.invariant.place);
      written = c.put_frame.ensures.text_after
          ∙ (λ i. over (frame_text a.kind (x i ∷ y i ∷ [])) (l.invariant.written i) (l.invariant.place i))
          ∙ frames_next a.kind 2 (pair_numbers a.table.now) (λ i. refl) t.bytes.now t.at (t.at + 19 * l.i) l.i (omega arith) refl;
      same_text = c.put_frame.ensures.same_text ∙ l.invariant.same_text;
      fits = two_more a.table.now l.i l.invariant.fits x_fits y_fits;
    }
