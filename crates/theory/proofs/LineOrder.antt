-- The order of edges on one line: for edges of positive width "lower on the doubled line c" is a strict order, and "at most as high" is transitive.
use Prim.Native.Nat.{ℕ, ◌*◌, ◌<◌, ◌≤◌}
use native.Mathlib.Nat.{le_antisymm, mul-le-mul_right, mul-lt-mul_of_pos_right, lt_of_mul-lt-mul_right, le_of_mul-le-mul_right}
use native.Mathlib.Omega.{arith, by_contra}
use Rattle.subdivision.specs.declared.Segment.{Segment}
use Rattle.subdivision.specs.Lines.{width, height}
use Rattle.subdivision.specs.Accepted.{Lower, Level}

-- three fractions: what is below a third by way of a second is below it; a, b, d over p, q, r
below_at_most : (a p b q d r : ℕ) → 0 < q → 0 < r → a * q < b * p → b * r ≤ d * q → a * r < d * p
below_at_most a p b q d r hq hr l m =
    let u : a * q * r < b * p * r = mul-lt-mul_of_pos_right l hr in
    let v : b * r * p ≤ d * q * p = mul-le-mul_right p m in
    let w : a * r * q < d * p * q = omega arith in
    lt_of_mul-lt-mul_right q w

at_most_at_most : (a p b q d r : ℕ) → 0 < q → a * q ≤ b * p → b * r ≤ d * q → a * r ≤ d * p
at_most_at_most a p b q d r hq l m =
    let u : a * q * r ≤ b * p * r = mul-le-mul_right r l in
    let v : b * r * p ≤ d * q * p = mul-le-mul_right p m in
    let w : a * r * q ≤ d * p * q = omega arith in
    le_of_mul-le-mul_right w hq

module _ (c : ℕ) where
  -- of two edges neither of which is lower, both are equally high
  pub level_unless_lower : (g h : Segment) → (Lower c g h → ⊥) → (Lower c h g → ⊥) → Level c g h
  level_unless_lower g h l m = le_antisymm (by_contra _ _ m) (by_contra _ _ l)

  pub lower_irreflexive : (g : Segment) → Lower c g g → ⊥
  lower_irreflexive g l = omega arith

  -- g lower than h, and h at most as high as k
  pub lower_at_most : (g h k : Segment) → 0 < width h → 0 < width k → Lower c g h → (Lower c k h → ⊥) → Lower c g k
  lower_at_most g h k hh hk l m =
      let n : height c h * width k ≤ height c k * width h = omega (arith, m) in
      below_at_most (height c g) (width g) (height c h) (width h) (height c k) (width k) hh hk l n

  pub lower_trans : (g h k : Segment) → 0 < width h → 0 < width k → Lower c g h → Lower c h k → Lower c g k
  lower_trans g h k hh hk l m =
      let n : height c h * width k ≤ height c k * width h = omega arith in
      below_at_most (height c g) (width g) (height c h) (width h) (height c k) (width k) hh hk l n

  -- g at most as high as h, and h as k
  pub at_most_trans : (g h k : Segment) → 0 < width h → (Lower c h g → ⊥) → (Lower c k h → ⊥) → Lower c k g → ⊥
  at_most_trans g h k hh l m n =
      let u : height c g * width h ≤ height c h * width g = omega (arith, l) in
      let v : height c h * width k ≤ height c k * width h = omega (arith, m) in
      let w : height c g * width k ≤ height c k * width g = at_most_at_most (height c g) (width g) (height c h) (width h) (height c k) (width k) hh u v in
      omega arith
