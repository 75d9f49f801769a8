-- Heights of edges on a line: that the side test's products fit 64 bits, and that a side test of an end is a comparison of heights.
use mathlib.Core.Path.{◌≡◌, sym, ap}
use Prim.Native.Nat.{ℕ, ◌+◌, ◌*◌, ◌-◌, ◌^◌, ◌≤◌, ◌<◌}
use native.Mathlib.Nat.{sub_self, mul-sub, mul-le-mul_right, mul-lt-mul_of_pos_right}
use native.Mathlib.Omega.{arith}
use Rattle.subdivision.specs.declared.Segment.{Segment}
use Rattle.subdivision.specs.Lines.{width, height, point_part, edge_part, side_of, side_at}
use Rattle.theory.proofs.Sides.{side_below, side_on, side_above, by_side}

-- two 32-bit heights by two differences that stay within 32 bits together
pub products_fit : {a b : ℕ} (u v : ℕ) → a < 2 ^ 32 → b < 2 ^ 32 → u + v < 2 ^ 32 → a * u + b * v < 2 ^ 64
products_fit {a} {b} u v h k j =
    let p : a * u ≤ 4294967295 * u = mul-le-mul_right u (omega arith) in
    let q : b * v ≤ 4294967295 * v = mul-le-mul_right v (omega arith) in
    omega arith

pub product_fits : {a : ℕ} (u : ℕ) → a < 2 ^ 32 → u < 2 ^ 32 → a * u < 2 ^ 64
product_fits u h k = omega (arith, products_fit u 0 h h (omega arith))

-- a common positive factor changes no side
side_scaled : (p q k : ℕ) → 0 < k → side_of (p * k) (q * k) ≡ side_of p q
side_scaled p q k h =
    by_side (λ s. side_of (p * k) (q * k) ≡ s) p q (λ l. side_below (p * k) (q * k) (mul-lt-mul_of_pos_right l h)) (λ e. side_on (p * k) (q * k) (ap (λ n. n * k) e))
    (λ l. side_above (p * k) (q * k) (mul-lt-mul_of_pos_right l h))

pub height_at : (g : Segment) (x : ℕ) → height (2 * x) g ≡ 2 * edge_part g x
height_at g x = rw (← mul-sub 2 g.xe x, ← mul-sub 2 x g.xw) (doubled g.yw g.ye (g.xe - x) (x - g.xw))
  where
    doubled : (a b c d : ℕ) → a * (2 * c) + b * (2 * d) ≡ 2 * (a * c + b * d)
    doubled a b c d = omega arith

pub west_end : (h : Segment) → edge_part h h.xw ≡ point_part h h.yw
west_end h = rw (sub_self h.xw) (omega arith)

pub east_end : (h : Segment) → edge_part h h.xe ≡ point_part h h.ye
east_end h = rw (sub_self h.xe) (omega arith)

-- for a point of h, the side of g on which it lies is the height of h there against the height of g
pub side_of_end : (g h : Segment) (x y : ℕ) → 0 < width h → edge_part h x ≡ point_part h y → side_at g x y ≡ side_of (height (2 * x) h * width g) (height (2 * x) g * width h)
side_of_end g h x y p e =
    rw (height_at h x, height_at g x, e) (sym (rw (multiplied (width g) (width h) y, again (edge_part g x) (width h)) (side_scaled (point_part g y) (edge_part g x) (2 * width h) (omega arith))))
  where
    multiplied : (w v y : ℕ) → 2 * (y * v) * w ≡ y * w * (2 * v)
    multiplied w v y = omega arith

    again : (n v : ℕ) → 2 * n * v ≡ n * (2 * v)
    again n v = omega arith
