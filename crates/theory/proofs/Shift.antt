-- Shifting keeps order, equality and range of signed 32-bit numbers, and the side of a point is the sign of document 01's formula.
use mathlib.Core.Path.{◌≡◌, refl, sym, ap, ◌∙◌}
use mathlib.Core.Logic.{◌↔◌}
use Prim.Native.Nat.{ℕ, zero, suc, ◌+◌, ◌*◌, ◌-◌, ◌^◌, ◌≤◌, ◌<◌}
use native.Mathlib.Nat.{add_comm}
use native.Mathlib.Decide.{dec_le}
use native.Mathlib.Omega.{arith}
use borrow.Author.Tests.{lt-ltb, le-ltb, le-leb, lt-leb}
use lib.Dec.{T, leb, ltb, leb→le, le→leb}
use lib.IntN.{ℤ, pos, negsuc, neg_ℤ, sub_ℕ, ◌+ℤ◌, ◌-ℤ◌, ◌*ℤ◌}
use lib.Signed.{mag, lt_z, le_z}
use Rattle.subdivision.specs.declared.Segment.{Segment}
use Rattle.subdivision.specs.declared.Side.{Side}
use Rattle.subdivision.specs.declared.Side.TheVariants.{Below, On, Above}
use Rattle.subdivision.specs.Limits.{origin, reach, lowest_coordinate, highest_coordinate}
use Rattle.subdivision.specs.Lines.{side_of, side_at}
use Rattle.subdivision.specs.Sheet.{shifted}
use Rattle.theory.proofs.Sides.{side_below, side_on, side_above}

-- z is a signed 32-bit number
abbrev pub Signed32 : ℤ → Type 0
Signed32 z = mag z < 2 ^ 31

pub shifted_fits : (z : ℤ) → Signed32 z → shifted z < 2 ^ 32
shifted_fits (pos n) h = omega arith
shifted_fits (negsuc n) h = omega arith

pub plus_origin : (z : ℤ) → Signed32 z → z +ℤ pos origin ≡ pos (shifted z)
plus_origin (pos n) h = ap pos (add_comm n origin)
plus_origin (negsuc n) h =
    let below : suc n ≤ origin = omega arith in
    let less : origin - suc n ≡ origin - (n + 1) = omega arith in
    rw (le-ltb origin (suc n) below) (ap pos less)

-- two tests agree where their orders do
leb_same : (a b c d : ℕ) → (a ≤ b → c ≤ d) → (b < a → d < c) → leb a b ≡ leb c d
leb_same a b c d f g = go (dec_le a b)
  where
    go : Dec (a ≤ b) → leb a b ≡ leb c d
    go (yes p) = le-leb a b p ∙ sym (le-leb c d (f p))
    go (no p) = let q : b < a = omega arith in lt-leb a b q ∙ sym (lt-leb c d (g q))

pub shifted_le : (a b : ℤ) → Signed32 a → Signed32 b → le_z a b ≡ leb (shifted a) (shifted b)
shifted_le (pos a) (pos b) h k = leb_same a b (shifted (pos a)) (shifted (pos b)) (omega arith) (omega arith)
shifted_le (pos a) (negsuc b) h k = sym (lt-leb (shifted (pos a)) (shifted (negsuc b)) (omega arith))
shifted_le (negsuc a) (pos b) h k = sym (le-leb (shifted (negsuc a)) (shifted (pos b)) (omega arith))
shifted_le (negsuc a) (negsuc b) h k = leb_same b a (shifted (negsuc a)) (shifted (negsuc b)) (omega arith) (omega arith)

pub shifted_lt : (a b : ℤ) → Signed32 a → Signed32 b → lt_z a b ≡ ltb (shifted a) (shifted b)
shifted_lt (pos a) (pos b) h k = leb_same (suc a) b (suc (shifted (pos a))) (shifted (pos b)) (omega arith) (omega arith)
shifted_lt (pos a) (negsuc b) h k = sym (le-ltb (shifted (pos a)) (shifted (negsuc b)) (omega arith))
shifted_lt (negsuc a) (pos b) h k = sym (lt-ltb (shifted (negsuc a)) (shifted (pos b)) (omega arith))
shifted_lt (negsuc a) (negsuc b) h k = leb_same (suc b) a (suc (shifted (negsuc a))) (shifted (negsuc b)) (omega arith) (omega arith)

shifted_injective : (a b : ℤ) → Signed32 a → Signed32 b → shifted a ≡ shifted b → a ≡ b
shifted_injective (pos a) (pos b) h k e = let same : a ≡ b = omega arith in ap pos same
shifted_injective (pos a) (negsuc b) h k e = absurd (omega arith)
shifted_injective (negsuc a) (pos b) h k e = absurd (omega arith)
shifted_injective (negsuc a) (negsuc b) h k e = let same : a ≡ b = omega arith in ap negsuc same

pub shifted_same : (a b : ℤ) → Signed32 a → Signed32 b → (a ≡ b) ↔ (shifted a ≡ shifted b)
shifted_same a b h k = (ap shifted, shifted_injective a b h k)

-- a number lies in -1,000,000 to 1,000,000 exactly when its shift lies between the shifted limits
pub shifted_in_reach : (z : ℤ) → Signed32 z → (T (le_z (neg_ℤ (pos reach)) z) × T (le_z z (pos reach))) ↔ ((lowest_coordinate ≤ shifted z) × (shifted z ≤ highest_coordinate))
shifted_in_reach z h = (λ t. (leb→le _ _ (rw low at t.0), leb→le _ _ (rw high at t.1)), λ t. (rw low (le→leb _ _ t.0), rw high (le→leb _ _ t.1)))
  where
    low : le_z (neg_ℤ (pos reach)) z ≡ leb lowest_coordinate (shifted z)
    low = shifted_le (neg_ℤ (pos reach)) z (omega arith) h

    high : le_z z (pos reach) ≡ leb (shifted z) highest_coordinate
    high = shifted_le z (pos reach) h (omega arith)

-- z is p less q
abbrev Differs : ℤ → ℕ → ℕ → Type 0
Differs (pos n) p q = p ≡ q + n
Differs (negsuc n) p q = p + suc n ≡ q

shifted_differs : (z : ℤ) → Signed32 z → Differs z (shifted z) origin
shifted_differs (pos n) h = refl
shifted_differs (negsuc n) h = omega arith

subℕ_differs : (a b p q : ℕ) → p + b ≡ q + a → Differs (sub_ℕ a b) p q
subℕ_differs a b p q e = go (dec_le b a)
  where
    go : Dec (b ≤ a) → Differs (sub_ℕ a b) p q
    go (yes h) = rw (le-ltb a b h) (omega arith)
    go (no h) = let k : a < b = omega arith in rw (lt-ltb a b k) (omega arith)

less_differs : (z w : ℤ) (a b c d : ℕ) → Differs z a b → Differs w c d → Differs (z -ℤ w) (a + d) (b + c)
less_differs (pos m) (pos zero) a b c d e f = omega arith
less_differs (pos m) (pos (suc n)) a b c d e f = subℕ_differs m (suc n) (a + d) (b + c) (omega arith)
less_differs (pos m) (negsuc n) a b c d e f = omega arith
less_differs (negsuc m) (pos zero) a b c d e f = subℕ_differs zero (suc m) (a + d) (b + c) (omega arith)
less_differs (negsuc m) (pos (suc n)) a b c d e f = omega arith
less_differs (negsuc m) (negsuc n) a b c d e f = subℕ_differs (suc n) (suc m) (a + d) (b + c) (omega arith)

negative_differs : (k p q : ℕ) → p + k ≡ q → Differs (neg_ℤ (pos k)) p q
negative_differs zero p q e = omega arith
negative_differs (suc k) p q e = e

times_differs : (z w : ℤ) (a b c d : ℕ) → Differs z a b → Differs w c d → Differs (z *ℤ w) (a * c + b * d) (a * d + b * c)
times_differs (pos m) (pos n) a b c d e f = rw (e, f) (omega arith)
times_differs (pos m) (negsuc n) a b c d e f =
    let all : a * c + b * d + m * suc n ≡ a * d + b * c = rw (e, ← f) (omega arith) in
    negative_differs (m * suc n) (a * c + b * d) (a * d + b * c) all
times_differs (negsuc m) (pos n) a b c d e f =
    let all : a * c + b * d + suc m * n ≡ a * d + b * c = rw (← e, f) (omega arith) in
    negative_differs (suc m * n) (a * c + b * d) (a * d + b * c) all
times_differs (negsuc m) (negsuc n) a b c d e f = rw (← e, ← f) (omega arith)

-- the sign of a number, as the side that it stands for
unfoldable pub sign : ℤ → Side
sign (pos zero) = On
sign (pos (suc n)) = Above
sign (negsuc n) = Below

sign_differs : (z : ℤ) (p q : ℕ) → Differs z p q → sign z ≡ side_of p q
unfolding sign
sign_differs (pos zero) p q e = sym (side_on p q (omega arith))
sign_differs (pos (suc n)) p q e = sym (side_above p q (omega arith))
sign_differs (negsuc n) p q e = sym (side_below p q (omega arith))

differs_same : (z : ℤ) (a b c d : ℕ) → a + d ≡ c + b → Differs z a b → Differs z c d
differs_same (pos n) a b c d e f = omega arith
differs_same (negsuc n) a b c d e f = omega arith

-- the two products of the formula, multiplied out, against the point's and the edge's part
parts_formula : (xw x xe yw ye y : ℕ) → xw ≤ x → x ≤ xe → xe * y + xw * yw + (ye * xw + yw * x) + (yw * (xe - x) + ye * (x - xw)) ≡ y * (xe - xw) + (xe * yw + xw * y + (ye * x + yw * xw))
parts_formula xw x xe yw ye y h k = go (x - xw) (xe - x) refl refl (omega arith) (omega arith) (omega arith)
  where
    go : (a b : ℕ) → x - xw ≡ a → xe - x ≡ b → xe - xw ≡ a + b → x ≡ xw + a → xe ≡ xw + a + b → xe * y + xw * yw + (ye * xw + yw * x) + (yw * (xe - x) + ye * (x - xw)) ≡ y * (xe - xw) + (xe * yw + xw * y + (ye * x + yw * xw))
    go a b d e f m n = rw (d, e, f) (rw (m, n) (omega arith))

formula_differs : (a b c d : ℤ) (xw yw xe ye x y : ℕ) → Differs a xe xw → Differs b y yw → Differs c ye yw → Differs d x xw → xw ≤ x → x ≤ xe → Differs ((a *ℤ b) -ℤ (c *ℤ d)) (y * (xe - xw)) (yw * (xe - x) + ye * (x - xw))
formula_differs a b c d xw yw xe ye x y p q r s h k =
    differs_same ((a *ℤ b) -ℤ (c *ℤ d)) _ _ _ _ (parts_formula xw x xe yw ye y h k)
    (less_differs (a *ℤ b) (c *ℤ d) _ _ _ _ (times_differs a b xe xw y yw p q) (times_differs c d ye yw x xw r s))

shifted_less : (z w : ℤ) → Signed32 z → Signed32 w → Differs (z -ℤ w) (shifted z) (shifted w)
shifted_less z w h k =
    differs_same (z -ℤ w) (shifted z + origin) (origin + shifted w) (shifted z) (shifted w) (omega arith)
    (less_differs z w (shifted z) origin (shifted w) origin (shifted_differs z h) (shifted_differs w k))

module _ (xw yw xe ye x y : ℤ) where
  -- document 01's formula
  abbrev pub formula : ℤ
  formula = ((xe -ℤ xw) *ℤ (y -ℤ yw)) -ℤ ((ye -ℤ yw) *ℤ (x -ℤ xw))

  -- the edge between the shifted ends, whatever numbers its vertices have
  abbrev pub between : ℕ → ℕ → Segment
  between west east =
      record { west = west; east = east; xw = shifted xw; yw = shifted yw; xe = shifted xe; ye = shifted ye }

  -- where the edge reaches x, the side of the shifted point is the sign of the formula over the signed numbers
  pub side_is_sign : (west east : ℕ) → Signed32 xw → Signed32 yw → Signed32 xe → Signed32 ye → Signed32 x → Signed32 y → T (le_z xw x) → T (le_z x xe) → side_at (between west east) (shifted x) (shifted y) ≡ sign formula
  side_is_sign west east hxw hyw hxe hye hx hy h k =
      sym (sign_differs formula _ _ (formula_differs (xe -ℤ xw) (y -ℤ yw) (ye -ℤ yw) (x -ℤ xw) (shifted xw) (shifted yw) (shifted xe) (shifted ye) (shifted x) (shifted y)
      (shifted_less xe xw hxe hxw) (shifted_less y yw hy hyw) (shifted_less ye yw hye hyw) (shifted_less x xw hx hxw)
      (leb→le _ _ (rw (shifted_le xw x hxw hx) at h)) (leb→le _ _ (rw (shifted_le x xe hx hxe) at k))))
