-- The digits are as many as asked, since that many hold the number.
use mathlib.Core.Path.{◌≡◌, ap, ◌∙◌}
use Prim.Native.Nat.{ℕ, ◌+◌, ◌^◌, ◌<◌, ◌≤◌, min, max}
use native.Mathlib.Nat.{zero-lt-suc}
use native.Mathlib.Omega.{arith}
use mathlib.Core.List.{List}
use lib.ListN.{length, take}
use Rattle.io.specs.Digits.{last_digits, IsDigitCount}
use Rattle.subdivision.specs.Lists.{over}
use Rattle.framing.proofs.TextDigits.{length_digits}
use Rattle.framing.proofs.Widths.{width_fixed}
use Rattle.texts.proofs.Text.put_digits.Goals as goal

-- as many digits as asked, where that many hold the number
spelled : (width n k : ℕ) (out : List ℕ) → ((0 < width) × (width ≤ 16)) × (n < 16 ^ width) → IsDigitCount 16 (min (max width 1) 16) n k
    → take k out ≡ last_digits 16 k n → take k out ≡ last_digits 16 width n
spelled width n k out fit count digits =
    let all : min (max width 1) 16 ≡ width = omega (arith, fit.0.0, fit.0.1) in
    let fewest : IsDigitCount 16 width n k = rw all at count in
    digits ∙ ap (λ k. last_digits 16 k n) (width_fixed 16 width n k (zero-lt-suc 15) fewest fit.1)

pub put_bytes-requires : goal.put_bytes-requires
put_bytes-requires c =
    let a = c.args in
    let h = c.hex-count in
    omega (arith, ap length (spelled a.width a.n h.result h.new.out c.requires.width_nonzero h.ensures.len h.ensures.digits), length_digits 16 a.width a.n)

pub returns : goal.returns
returns c =
    let a = c.args in
    let h = c.hex-count in
    let e = spelled a.width a.n h.result h.new.out c.requires.width_nonzero h.ensures.len h.ensures.digits in
    record {
      value = c.put_bytes.ensures.value ∙ ap (λ l. a.self.now.at + length l) e ∙ ap (λ k. a.self.now.at + k) (length_digits 16 a.width a.n);
      text_after = c.put_bytes.ensures.text_after ∙ ap (λ l. over l a.self.now.bytes.now a.self.now.at) e;
      same_text = c.put_bytes.ensures.same_text;
    }
