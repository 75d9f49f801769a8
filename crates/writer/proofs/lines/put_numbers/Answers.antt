use Rattle.std.proofs.Common.{arith, ◌∙◌, get_or}
use Rattle.io.specs.Digits.{last_digits}
use Rattle.subdivision.specs.Lists.{over}
use Rattle.framing.proofs.WrittenFrames.{numbers_next}
use Rattle.writer.proofs.lines.put_numbers.Goals as goal

pub loop-n-preserved : goal.loop-n-preserved
loop-n-preserved c =
    let l = c.loop-n in
    let ns = c.args.numbers.now in
    let t = c.args.text.now in
    let digits = last_digits 16 8 (get_or ns l.n-index 0) in
    record {
      place = omega (arith, c.put_digits.ensures.value, l.invariant.place);
      written = c.put_digits.ensures.text_after
          ∙ (λ i. over digits (l.invariant.written i) (l.invariant.place i))
          ∙ numbers_next ns t.bytes.now t.at l.n-index (omega arith) (omega arith);
      same_text = c.put_digits.ensures.same_text ∙ l.invariant.same_text;
    }
