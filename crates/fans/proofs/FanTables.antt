-- The fans as parts of the edges in order, from one start to the next.
use mathlib.Core.Path.{◌≡◌, ap, ◌∙◌}
use mathlib.Core.Bool.{Bool}
use mathlib.Core.List.{List}
use Prim.Native.Nat.{ℕ, suc, ◌+◌, ◌-◌, ◌<◌, ◌≤◌}
use native.Mathlib.Numerals.{add-one}
use native.Mathlib.Omega.{arith}
use lib.IntN.{ℤ}
use lib.ListN.{length, get_or, take, drop}
use Rattle.subdivision.specs.Order.{SortedBelow}
use Rattle.subdivision.specs.Sheet.{vertex_x, vertex_y}
use Rattle.theory.proofs.Groups.{pair_key, group_start, group_start_le, group_start_rises}
use Rattle.theory.proofs.Lists.{get_d_tab}
use Rattle.theory.proofs.Order.{sorted_below}
use Rattle.fans.specs.Fans.{fan_key, fan_order, fan_of, AreFans, point_order}

-- the vertices in order are as many, and each is one of them
pub points_below : (vertices : List ℤ) (n : ℕ) {points : List ℕ} → points ≡ point_order vertices n
    → (length points ≡ n) × ((i : ℕ) → i < n → get_or points i 0 < n)
points_below vertices n e = rw e (s.long, s.numbers)
  where
    s : SortedBelow (λ v. pair_key (vertex_x vertices v) (vertex_y vertices v)) n (point_order vertices n)
    s = sorted_below (λ v. pair_key (vertex_x vertices v) (vertex_y vertices v)) n

-- a part of the order from one start to the next is a fan
pub record FanPart (edges : List ℕ) (eastern : Bool) (order : List ℕ) (v a b : ℕ) : Type 0 where
  pub rises : a ≤ b
  pub within : b ≤ length order
  pub fan : take (b - a) (drop a order) ≡ fan_of edges eastern v

pub fan_part : (edges : List ℕ) (eastern : Bool) (order starts : List ℕ) → AreFans edges eastern order starts
    → (v : ℕ) → v + 1 < length starts → {a b : ℕ} → a ≡ get_or starts v 0 → b ≡ get_or starts (v + 1) 0 → FanPart edges eastern order v a b
fan_part edges eastern order starts fans v h {a} {b} p q =
    record {
      rises = omega (arith, from, to, group_start_rises (fan_key edges eastern) (fan_order edges eastern) v);
      within = omega (arith, to, group_start_le (fan_key edges eastern) (fan_order edges eastern) (suc v), ap length fans.0);
      fan = rw (from, to, fans.0);
    }
  where
    start : (k : ℕ) → k < length starts → get_or starts k 0 ≡ group_start (fan_key edges eastern) (fan_order edges eastern) k
    start k l = ap (λ (t : List ℕ). get_or t k 0) fans.1 ∙ get_d_tab (group_start (fan_key edges eastern) (fan_order edges eastern)) (length starts) k 0 l

    from : a ≡ group_start (fan_key edges eastern) (fan_order edges eastern) v
    from = p ∙ start v (omega arith)

    to : b ≡ group_start (fan_key edges eastern) (fan_order edges eastern) (suc v)
    to = rw (← add-one v) (q ∙ start (v + 1) h)
