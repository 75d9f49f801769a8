-- The digits are the fewest that hold the number.
use mathlib.Core.Path.{◌≡◌, ap, ◌∙◌}
use Prim.Native.Nat.{ℕ, ◌+◌}
use native.Mathlib.Omega.{arith}
use mathlib.Core.List.{List}
use lib.ListN.{length, take}
use Rattle.io.specs.Digits.{last_digits, IsDigitCount}
use Rattle.subdivision.specs.Lists.{over}
use Rattle.frames.specs.Placing.{decimal}
use Rattle.framing.proofs.Widths.{decimal_width}
use Rattle.texts.proofs.Text.put_decimal.Goals as goal

-- the digits of as many as the number has are its decimal
spelled : (n k : ℕ) (out : List ℕ) → IsDigitCount 10 1 n k → take k out ≡ last_digits 10 k n → take k out ≡ decimal n
unfolding decimal
spelled n k out fewest digits = digits ∙ ap (λ k. last_digits 10 k n) (decimal_width n k fewest)

pub put_bytes-requires : goal.put_bytes-requires
put_bytes-requires c =
    let d = c.decimal-count in
    omega (arith, ap length (spelled c.args.n d.result d.new.out d.ensures.len d.ensures.digits))

pub returns : goal.returns
returns c =
    let d = c.decimal-count in
    let e = spelled c.args.n d.result d.new.out d.ensures.len d.ensures.digits in
    record {
      value = c.put_bytes.ensures.value ∙ ap (λ l. c.args.self.now.at + length l) e;
      text_after = c.put_bytes.ensures.text_after ∙ ap (λ l. over l c.args.self.now.bytes.now c.args.self.now.at) e;
      same_text = c.put_bytes.ensures.same_text;
    }
