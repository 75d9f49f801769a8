-- Eight digits make a number of four bytes at most.
use mathlib.Core.Path.{◌≡◌, refl, ap, ◌∙◌}
use Prim.Native.Nat.{ℕ, suc, ◌≤◌, ◌<◌, ◌+◌, ◌*◌, ◌^◌}
use native.Mathlib.Nat.{zero-lt-suc, pow-succ'}
use native.Mathlib.Numerals.{add-one}
use native.Mathlib.Omega.{arith}
use lib.ListN.{get_or}
use Rattle.frames.specs.Digits.{digit_value}
use Rattle.framing.proofs.Widths.{pow_grows}
use Rattle.hexadecimal.proofs.digits.number.Goals as goal

-- a power of 16 that eight digits can reach
sixteens : (i : ℕ) → i < 8 → 16 * 16 ^ i ≤ 4294967296
sixteens i h = rw pow-succ' at (pow_grows 16 (suc i) 8 (zero-lt-suc 15) h)

pub overflow_mul-value : goal.overflow_mul-value
overflow_mul-value c = record { fits = omega (arith, sixteens c.loop-i.i (omega arith)) }

pub overflow_add-value : goal.overflow_add-value
overflow_add-value c = record { fits = omega (arith, sixteens c.loop-i.i (omega arith), c.digit_value.ensures.1) }

pub loop-i-preserved : goal.loop-i-preserved
loop-i-preserved c =
    let l = c.loop-i in
    let a = c.args in
    let digit : c.digit_value.result ≡ digit_value (get_or a.page.now (a.at + l.i) 0) = c.digit_value.ensures.0 ∙ ap digit_value c.entry_or.ensures in
    (rw (add-one l.i, l.invariant.0, digit) refl, rw (add-one l.i, pow-succ') (omega (arith, c.digit_value.ensures.1)))
