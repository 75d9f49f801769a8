-- Laws of where a float operation changes nothing.
use mathlib.Core.Path.{◌≡◌, refl, sym, ap, ◌∙◌}
use Prim.Native.Nat.{ℕ, zero, suc, ◌+◌, ◌-◌, ◌*◌, ◌/◌, ◌%◌, ◌^◌, ◌≤◌, ◌<◌}
use native.Mathlib.Nat.{le_of_suc-le-suc, lt_of_not-le, lt_of_lt_of_le, lt_irrefl, one-mul, mul-one, zero-mul, mul_assoc, mul_right_comm}
use native.Mathlib.Nat.{mul-lt-mul_of_pos_right, lt_of_mul-lt-mul_right}
use native.Mathlib.Omega.{arith}
use mathlib.Core.Bool.{Bool, true, false, ◌&&◌, cond}
use lib.IntN.{ℤ, pos, negsuc}
use lib.Dec.{T, leb, ltb, eqb, ltb→lt, leb→le}
use lib.Pow.{pow-add, pow_pos, pow-lt}
use lib.Ieee.{Float, nan, inf, fin, Format, binary32, binary64, prec, emax, low, up, down, size, round, div, of_int, fits, hid, top, of_bits, to_bits}
use lib.Ieee.Digits.{back}
use lib.Ieee.Fits.{and_l, and_r, down_pos, round-fits}
use lib.Ieee.Bits.{of_bits-to_bits}
use lib.Ieee.Exact.{HasValue, round_exact}
use lib.Ieee.Nearest.{div_same}

-- the bit pattern of a sign and a size, the size in units of the format's smallest value
abbrev written : Format → Bool → ℕ → ℕ
written f s n = cond s (top f) 0 + (size n - prec f) * hid f + n / 2 ^ (size n - prec f)

-- the bit pattern of a finite value follows from its sign and its size
bits_of_value : (f : Format) (x : Float) (s : Bool) (a c : ℕ) → 0 < c → HasValue x s a c → to_bits f x ≡ written f s (a * 2 ^ low f / c)
unfolding to_bits
bits_of_value f (fin t m e) s a c C v =
    let l = 2 ^ low f in
    let cross : m * up e * l * c ≡ a * l * down e = mul_right_comm (m * up e) l c ∙ ap (λ (z : ℕ). z * l) v.1 ∙ mul_right_comm a (down e) l in
    ap (λ (z : Bool). written f z (m * up e * l / down e)) v.0 ∙ ap (written f s) (div_same (m * up e * l) (down e) (a * l) c (down_pos e) C cross)
bits_of_value f nan s a c C v = elim v [ ]
bits_of_value f (inf _) s a c C v = elim v [ ]

-- two values that the format holds, of one sign and one size, are one value
value_unique : (f : Format) (x y : Float) (s : Bool) (a c : ℕ) → 0 < c → T (fits f x) → T (fits f y) → HasValue x s a c → HasValue y s a c → x ≡ y
value_unique f x y s a c C p q v w =
    sym (of_bits-to_bits f x p) ∙ ap (of_bits f) (bits_of_value f x s a c C v ∙ sym (bits_of_value f y s a c C w)) ∙ of_bits-to_bits f y q

-- an exponent that the format reaches down to can be counted from its smallest value
place : (l : ℕ) (e : ℤ) → down e ≤ 2 ^ l → (j : ℕ) × (up e * 2 ^ l ≡ 2 ^ j * down e)
place l (pos a) h = (a + l, sym (pow-add 2 a l) ∙ sym (mul-one (2 ^ (a + l))))
place l (negsuc a) h =
    let k : suc a ≤ l = le_of_suc-le-suc (lt_of_not-le (λ (g : suc l ≤ suc a). lt_irrefl (2 ^ l) (lt_of_lt_of_le (pow-lt g) h))) in
    (l - suc a, one-mul (2 ^ l) ∙ ap (λ (z : ℕ). 2 ^ z) (sym (back l (suc a) k)) ∙ pow-add 2 (l - suc a) (suc a))

-- a size of few digits, neither too fine nor too large for the format, keeps its value when it is rounded
exact : (f : Format) (s : Bool) (m : ℕ) (e : ℤ) → m < 2 ^ prec f → down e ≤ 2 ^ low f → m * up e < 2 ^ suc (emax f) * down e
    → HasValue (round f s (m * up e) (down e)) s (m * up e) (down e)
exact f s m e a b c =
    let l = low f in
    let p = place l e b in
    let j = p.0 in
    let h : m * up e * 2 ^ l ≡ m * 2 ^ j * down e = mul_assoc m (up e) (2 ^ l) ∙ ap (λ (z : ℕ). m * z) p.1 ∙ sym (mul_assoc m (2 ^ j) (down e)) in
    let k : m * 2 ^ j * down e < 2 ^ (l + suc (emax f)) * down e = rw pow-add (omega (arith, h, mul-lt-mul_of_pos_right c (pow_pos l))) in
    round_exact f s (m * up e) (down e) m j (down_pos e) a (lt_of_mul-lt-mul_right (down e) k) h

-- a value that the format holds rounds to itself
round_own : (f : Format) (s : Bool) (m : ℕ) (e : ℤ) → T (fits f (fin s m e)) → round f s (m * up e) (down e) ≡ fin s m e
unfolding fits
round_own f s m e t =
    let a = m * up e in
    let c = down e in
    value_unique f (round f s a c) (fin s m e) s a c (down_pos e) (round-fits f s a c) t (own m t) (refl, refl)
  where
    own : (m : ℕ) → T (fits f (fin s m e)) → HasValue (round f s (m * up e) (down e)) s (m * up e) (down e)
    own zero t = round_exact f s (0 * up e) (down e) 0 0 (down_pos e) (pow_pos (prec f)) (pow_pos (low f + suc (emax f))) (simp zero-mul)
    own (suc m) t =
        let A = eqb (suc m % 2) 1 in
        let B = ltb (suc m) (2 ^ prec f) in
        let C = leb (down e) (2 ^ low f) in
        let D = ltb (suc m * up e) (2 ^ suc (emax f) * down e) in
        exact f s (suc m) e
        (ltb→lt (suc m) (2 ^ prec f) (and_r A B (and_l (A && B) C (and_l (A && B && C) D t))))
        (leb→le (down e) (2 ^ low f) (and_r (A && B) C (and_l (A && B && C) D t)))
        (ltb→lt (suc m * up e) (2 ^ suc (emax f) * down e) (and_r (A && B && C) D t))

-- the integer one as a float is written with the significand one and the exponent zero
one_is : (f : Format) → of_int f (pos 1) ≡ fin false 1 (pos 0)
unfolding of_int
one_is binary32 = refl
one_is binary64 = refl

-- a value that the format holds, over one as it is written, is itself
over_one : (f : Format) (x : Float) → T (fits f x) → div f x (fin false 1 (pos 0)) ≡ x
unfolding div
over_one f nan t = refl
over_one f (inf true) t = refl
over_one f (inf false) t = refl
over_one f (fin true m e) t = simp (mul-one, one-mul) (round_own f true m e t)
over_one f (fin false m e) t = simp (mul-one, one-mul) (round_own f false m e t)

-- a value that the format holds, divided by the integer one as a float, is itself: a zero keeps its sign, and infinities and nan are included
pub div_one : (f : Format) (x : Float) → T (fits f x) → div f x (of_int f (pos 1)) ≡ x
div_one f x t = ap (div f x) (one_is f) ∙ over_one f x t
