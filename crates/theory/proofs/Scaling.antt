-- The common scale of a sheet that keeps rule 2 keeps order: comparing heights, or a height and an ordinate, is comparing their scaled numbers.
use mathlib.Core.Path.{◌≡◌, refl, sym, ap}
use mathlib.Core.Bool.{Bool, true, false}
use mathlib.Core.Logic.{◌↔◌}
use Prim.Native.Nat.{ℕ, zero, suc, ◌+◌, ◌*◌, ◌-◌, ◌<◌, ◌≤◌}
use lib.Dec.{eqb}
use native.Mathlib.Nat.{not-suc-le-zero, zero-mul, mul_comm, mul-pos, mul-le-mul_right, mul-lt-mul_of_pos_right, lt_of_mul-lt-mul_right, eq_of_mul-eq-mul_right}
use native.Mathlib.Omega.{arith}
use borrow.Author.Tests.{eqb-true, eqb-false, ne_eqb}
use Rattle.subdivision.specs.Sheet.{Sheet, edge_count, x_of, y_of, west_of, east_of, segment}
use Rattle.subdivision.specs.Lines.{width, height, point_part, edge_part}
use Rattle.subdivision.specs.Accepted.{Lower, Rule2}
use Rattle.theory.proofs.Scale.{widths, widths_but, unit, share, scaled, level, OneScale}
use Rattle.theory.proofs.Heights.{height_at, west_end, east_end}
use Rattle.theory.proofs.FanOrder.{edge_wide}

-- two pairs of numbers that are equal up to positive factors are in the same order
same_order : (a b c d k l : ℕ) → 0 < k → 0 < l → a * k ≡ c * l → b * k ≡ d * l → (a < b) ↔ (c < d)
same_order a b c d k l hk hl e f = (over a b c d k l hk e f, over c d a b l k hl (sym e) (sym f))
  where
    over : (a b c d k l : ℕ) → 0 < k → a * k ≡ c * l → b * k ≡ d * l → a < b → c < d
    over a b c d k l hk e f h =
        let m : a * k < b * k = mul-lt-mul_of_pos_right h hk in
        let n : c * l < d * l = omega arith in
        lt_of_mul-lt-mul_right l n

-- and are equal together
same_equality : (a b c d k l : ℕ) → 0 < k → 0 < l → a * k ≡ c * l → b * k ≡ d * l → (a ≡ b) ↔ (c ≡ d)
same_equality a b c d k l hk hl e f = (over a b c d k l hl e f, over c d a b l k hk (sym e) (sym f))
  where
    over : (a b c d k l : ℕ) → 0 < l → a * k ≡ c * l → b * k ≡ d * l → a ≡ b → c ≡ d
    over a b c d k l hl e f h =
        let m : a * k ≡ b * k = ap (λ (z : ℕ). z * k) h in
        let n : c * l ≡ d * l = omega arith in
        eq_of_mul-eq-mul_right l hl c d n

module _ (s : Sheet) where
  -- the first edges without edge e, which is not of them, are the first edges
  widths_before : (e k : ℕ) → k ≤ e → widths_but s e k ≡ widths s k
  widths_before e zero h = refl
  widths_before e (suc k) h =
      let other : eqb k e ≡ false = ne_eqb k e (omega arith) in
      rw (other, widths_but) (ap (λ (n : ℕ). width (segment s k) * n) (widths_before e k (omega arith)))

  -- the widths without that of edge e, times it, are all the widths
  widths_but_lem : (e k : ℕ) → e < k → widths_but s e k * width (segment s e) ≡ widths s k
  widths_but_lem e zero h = absurd (not-suc-le-zero h)
  widths_but_lem e (suc k) h = go (eqb k e) refl (widths_but_lem e k)
    where
      go : (b : Bool) → eqb k e ≡ b → (e < k → widths_but s e k * width (segment s e) ≡ widths s k)
          → (elim b [ true ↦ widths_but s e k | false ↦ width (segment s k) * widths_but s e k ]) * width (segment s e) ≡ width (segment s k) * widths s k
      go true t rest = rw (eqb-true k e t, widths_before e e (omega arith)) (omega arith)
      go false t rest =
          let m : widths_but s e k * width (segment s e) ≡ widths s k = rest (omega (arith, eqb-false k e t)) in
          rw (← m) (omega arith)

  module _ (rule2 : Rule2 s) where
    widths_positive : (k : ℕ) → k ≤ edge_count s → 0 < widths s k
    widths_positive zero h = omega arith
    widths_positive (suc k) h = mul-pos (edge_wide s rule2 k h) (widths_positive k (omega arith))

    unit_positive : 0 < unit s
    unfolding unit
    unit_positive = widths_positive (edge_count s) (omega arith)

    share_width : (e : ℕ) → e < edge_count s → share s e * width (segment s e) ≡ unit s
    unfolding unit share
    share_width e h = widths_but_lem e (edge_count s) h

    share_positive : (e : ℕ) → e < edge_count s → 0 < share s e
    share_positive e h = factor (share s e) (width (segment s e)) (rw (share_width e h) unit_positive)
      where
        factor : (a b : ℕ) → 0 < a * b → 0 < a
        factor zero b p = rw (zero-mul b) at p
        factor (suc a) b p = omega arith

    double_share_positive : (e : ℕ) → e < edge_count s → 0 < 2 * share s e
    double_share_positive e h = omega (arith, share_positive e h)

    lower_scaled : (c e f : ℕ) → e < edge_count s → f < edge_count s → Lower c (segment s e) (segment s f) ↔ (scaled s c e < scaled s c f)
    unfolding scaled
    lower_scaled c e f he hf =
        same_order _ _ _ _ (share s e * share s f) (unit s) (mul-pos (share_positive e he) (share_positive f hf)) unit_positive
        (crossed (height c (segment s e)) (share s e) (share s f) (width (segment s f)) (unit s) (share_width f hf))
        (rw (mul_comm (share s e) (share s f)) (crossed (height c (segment s f)) (share s f) (share s e) (width (segment s e)) (unit s) (share_width e he)))
      where
        crossed : (a p q v u : ℕ) → q * v ≡ u → a * v * (p * q) ≡ a * p * u
        crossed a p q v u i = rw (← i) (omega arith)

    -- twice the share brings the side test's two numbers to the common scale
    edge_scaled : (e x : ℕ) → edge_part (segment s e) x * (2 * share s e) ≡ scaled s (2 * x) e * 1
    unfolding scaled
    edge_scaled e x = rw (height_at (segment s e) x) (doubled (edge_part (segment s e) x) (share s e))
      where
        doubled : (a p : ℕ) → a * (2 * p) ≡ 2 * a * p * 1
        doubled a p = omega arith

    point_scaled : (e y : ℕ) → e < edge_count s → point_part (segment s e) y * (2 * share s e) ≡ level s y * 1
    unfolding level
    point_scaled e y h = rw (← share_width e h) (doubled (width (segment s e)) (share s e))
      where
        doubled : (w p : ℕ) → y * w * (2 * p) ≡ y * (2 * (p * w)) * 1
        doubled w p = omega arith

    on_scale : (e x y : ℕ) → e < edge_count s → (point_part (segment s e) y ≡ edge_part (segment s e) x) ↔ (scaled s (2 * x) e ≡ level s y)
    on_scale e x y h =
        let i = same_equality _ _ _ _ (2 * share s e) 1 (double_share_positive e h) (omega arith) (edge_scaled e x) (point_scaled e y h) in
        (λ j. i.0 (sym j), λ j. sym (i.1 j))

    level_keeps_order : (y z : ℕ) → (y < z) ↔ (level s y < level s z)
    unfolding level
    level_keeps_order y z = same_order y z _ _ (2 * unit s) 1 (omega (arith, unit_positive)) (omega arith) (omega arith) (omega arith)

    level_injective : (y z : ℕ) → level s y ≡ level s z → y ≡ z
    unfolding level
    level_injective y z e = eq_of_mul-eq-mul_right (2 * unit s) (omega (arith, unit_positive)) y z e

    -- between its ends an edge is at most as high as what both ends are at most
    between_at_most : (c e y : ℕ) → e < edge_count s → 2 * x_of s (west_of s e) ≤ c → c ≤ 2 * x_of s (east_of s e)
        → y_of s (west_of s e) ≤ y → y_of s (east_of s e) ≤ y → scaled s c e ≤ level s y
    unfolding scaled level
    between_at_most c e y h w v i j =
        rw (← share_width e h)
        (mean (y_of s (west_of s e)) (y_of s (east_of s e)) (share s e) (2 * x_of s (east_of s e) - c) (c - 2 * x_of s (west_of s e)) (width (segment s e)) i j (omega arith))
      where
        mean : (a b p u v w : ℕ) → a ≤ y → b ≤ y → u + v ≡ 2 * w → (a * u + b * v) * p ≤ y * (2 * (p * w))
        mean a b p u v w i j k =
            let m : a * (u * p) ≤ y * (u * p) = mul-le-mul_right (u * p) i in
            let n : b * (v * p) ≤ y * (v * p) = mul-le-mul_right (v * p) j in
            let o : (u + v) * (y * p) ≡ 2 * w * (y * p) = ap (λ (z : ℕ). z * (y * p)) k in
            omega arith

    -- rule 2: the common scale keeps order
    pub one_scale : OneScale s
    one_scale =
        record {
          lower_less = lower_scaled;
          under_level = λ e x y h. same_order _ _ _ _ (2 * share s e) 1 (double_share_positive e h) (omega arith) (edge_scaled e x) (point_scaled e y h);
          over_level = λ e x y h. same_order _ _ _ _ (2 * share s e) 1 (double_share_positive e h) (omega arith) (point_scaled e y h) (edge_scaled e x);
          on_level = on_scale;
          western_end = λ e h. (on_scale e (x_of s (west_of s e)) (y_of s (west_of s e)) h).0 (sym (west_end (segment s e)));
          eastern_end = λ e h. (on_scale e (x_of s (east_of s e)) (y_of s (east_of s e)) h).0 (sym (east_end (segment s e)));
          level_less = level_keeps_order;
          level_same = level_injective;
          scaled_at_most = between_at_most;
        }
