-- Two edges that are in no conflict: on their overlap the one is under the other throughout, level at most where it starts or ends.
use mathlib.Core.Path.{◌≡◌, sym}
use mathlib.Core.Logic.{◌⊎◌, ◌↔◌, inl, inr, ⊎_elim}
use Prim.Native.Nat.{ℕ, ◌+◌, ◌*◌, ◌-◌, ◌<◌, ◌≤◌, min, max}
use native.Mathlib.Decide.{dec_lt}
use native.Mathlib.Nat.{min_comm, max_comm, mul-le-mul_right, mul-lt-mul_of_pos_right, lt_of_mul-lt-mul_right, le_of_mul-le-mul_right}
use native.Mathlib.Omega.{arith}
use Rattle.subdivision.specs.declared.Segment.{Segment}
use Rattle.subdivision.specs.Lines.{width, height, overlap_west, overlap_east}
use Rattle.subdivision.specs.Accepted.{Lower, Level, ConflictOn, Conflict}

-- ---- means

-- m is the mean of a and b, weighed by u and t
abbrev Mean : ℕ → ℕ → ℕ → ℕ → ℕ → Type 0
Mean t u a m b = m * (t + u) ≡ a * u + b * t

module _ (t u a m b c n d : ℕ) (p : Mean t u a m b) (q : Mean t u c n d) where
  mean_at_most : 0 < t + u → a ≤ c → b ≤ d → m ≤ n
  mean_at_most h j k =
      let v : a * u ≤ c * u = mul-le-mul_right u j in
      let w : b * t ≤ d * t = mul-le-mul_right t k in
      let z : m * (t + u) ≤ n * (t + u) = omega arith in
      le_of_mul-le-mul_right z h

  mean_less : 0 < t → 0 < u → a ≤ c → b ≤ d → (a < c) ⊎ (b < d) → m < n
  mean_less h i j k l =
      let v : a * u ≤ c * u = mul-le-mul_right u j in
      let w : b * t ≤ d * t = mul-le-mul_right t k in
      let z : m * (t + u) < n * (t + u) =
      ⊎_elim (λ (o : a < c). let x : a * u < c * u = mul-lt-mul_of_pos_right o i in omega arith) (λ (o : b < d). let x : b * t < d * t = mul-lt-mul_of_pos_right o h in omega arith) l in
      lt_of_mul-lt-mul_right (t + u) z

-- between two lines that an edge reaches its height is the mean of those on them
height_mean : (g : Segment) (a c b n : ℕ) → 2 * g.xw ≤ a → a ≤ c → c ≤ b → b ≤ 2 * g.xe
    → Mean (c - a) (b - c) (height a g * n) (height c g * n) (height b g * n)
height_mean g a c b n h i j k = go (a - 2 * g.xw) (c - a) (b - c) (2 * g.xe - b) (omega arith) (omega arith) (omega arith) (omega arith)
  where
    multiplied : (y z p t u q : ℕ) → (y * (u + q) + z * (p + t)) * n * (t + u) ≡ (y * (t + u + q) + z * p) * n * u + (y * q + z * (p + t + u)) * n * t
    multiplied y z p t u q = omega arith

    go : (p t u q : ℕ) → a ≡ 2 * g.xw + p → c ≡ a + t → b ≡ c + u → 2 * g.xe ≡ b + q → Mean t u (height a g * n) (height c g * n) (height b g * n)
    go p t u q h i j k =
        let aw : a - 2 * g.xw ≡ p = omega arith in
        let ae : 2 * g.xe - a ≡ t + u + q = omega arith in
        let cw : c - 2 * g.xw ≡ p + t = omega arith in
        let ce : 2 * g.xe - c ≡ u + q = omega arith in
        let bw : b - 2 * g.xw ≡ p + t + u = omega arith in
        let be : 2 * g.xe - b ≡ q = omega arith in
        rw (aw, ae, cw, ce, bw, be) (multiplied g.yw g.ye p t u q)

-- ---- two edges with no conflict

-- g is at most as high as h on the doubled line c
abbrev AtMost : ℕ → Segment → Segment → Type 0
AtMost c g h = height c g * width h ≤ height c h * width g

-- g is at most as high as h on the lines a and b, and lower on one of them
abbrev Under : ℕ → ℕ → Segment → Segment → Type 0
Under a b g h = (AtMost a g h × AtMost b g h) × (Lower a g h ⊎ Lower b g h)

-- both edges reach the lines from a to b
abbrev Spanned : ℕ → ℕ → Segment → Segment → Type 0
Spanned a b g h = ((2 * g.xw ≤ a) × (b ≤ 2 * g.xe)) × ((2 * h.xw ≤ a) × (b ≤ 2 * h.xe))

module _ (a b c : ℕ) (g h : Segment) (r : Spanned a b g h) (u : Under a b g h) where
  under_at_most : a < b → a ≤ c → c ≤ b → AtMost c g h
  under_at_most l i j =
      mean_at_most (c - a) (b - c) _ _ _ _ _ _ (height_mean g a c b (width h) r.0.0 i j r.0.1) (height_mean h a c b (width g) r.1.0 i j r.1.1)
      (omega arith) u.0.0 u.0.1

  under_lower : a < c → c < b → Lower c g h
  under_lower i j =
      mean_less (c - a) (b - c) _ _ _ _ _ _ (height_mean g a c b (width h) r.0.0 (omega arith) (omega arith) r.0.1) (height_mean h a c b (width g) r.1.0 (omega arith) (omega arith) r.1.1)
      (omega arith) (omega arith) u.0.0 u.0.1 u.1

-- two pairs of numbers that are not in opposite orders, and not both equal, are in one order
one_order : (p q v w : ℕ) → (p < q → w < v → ⊥) → (q < p → v < w → ⊥) → (p ≡ q → v ≡ w → ⊥)
    → (((p ≤ q) × (v ≤ w)) × ((p < q) ⊎ (v < w))) ⊎ (((q ≤ p) × (w ≤ v)) × ((q < p) ⊎ (w < v)))
one_order p q v w f g z = go (dec_lt p q) (dec_lt q p) (dec_lt v w)
  where
    go : Dec (p < q) → Dec (q < p) → Dec (v < w) → (((p ≤ q) × (v ≤ w)) × ((p < q) ⊎ (v < w))) ⊎ (((q ≤ p) × (w ≤ v)) × ((q < p) ⊎ (w < v)))
    go (yes i) j k = inl ((omega arith, omega (arith, f i)), inl i)
    go (no i) (yes j) k = inr ((omega arith, omega (arith, g j)), inl j)
    go (no i) (no j) (yes k) = inl ((omega arith, omega arith), inr k)
    go (no i) (no j) (no k) = inr ((omega arith, omega arith), inr (omega (arith, z (omega arith))))

module _ (g h : Segment) where
  -- both edges reach all of their overlap
  overlap_spanned : Spanned (2 * overlap_west g h) (2 * overlap_east g h) g h
  overlap_spanned = ((omega arith, omega arith), (omega arith, omega arith))

  -- of the two, k is under l at the ends of their overlap
  abbrev UnderThere : Segment → Segment → Type 0
  UnderThere k l = Under (2 * overlap_west g h) (2 * overlap_east g h) k l

  module _ (clear : Conflict g h → ⊥) where
    one_under : overlap_west g h < overlap_east g h → UnderThere g h ⊎ UnderThere h g
    one_under o =
        one_order _ _ _ _ (λ i j. clear (o, inl (inl (i, j)))) (λ i j. clear (o, inl (inr (i, j)))) (λ i j. clear (o, inr (inl (i, j))))

    module _ (c : ℕ) (after : 2 * overlap_west g h < c) (before : c < 2 * overlap_east g h) where
      -- the one that is under the other is lower strictly inside the overlap
      one_lower : (UnderThere g h × Lower c g h) ⊎ (UnderThere h g × Lower c h g)
      one_lower =
          ⊎_elim (λ u. inl (u, under_lower _ _ c g h overlap_spanned u after before))
          (λ u. inr (u, under_lower _ _ c h g (overlap_spanned.1, overlap_spanned.0) u after before))
          (one_under (omega arith))

      -- strictly inside the overlap the two are nowhere equally high
      pub unlevel_inside : Level c g h → ⊥
      unlevel_inside l = ⊎_elim (λ u. omega (arith, u.1)) (λ u. omega (arith, u.1)) one_lower

      -- lower strictly inside the overlap is at most as high on all of it
      pub order_kept : Lower c g h → (d : ℕ) → 2 * overlap_west g h ≤ d → d ≤ 2 * overlap_east g h → Lower d h g → ⊥
      order_kept l d i j m =
          ⊎_elim (λ u. let n = under_at_most _ _ d g h overlap_spanned u.0 (omega arith) i j in omega arith) (λ u. omega (arith, u.1)) one_lower

      -- lower strictly inside the overlap is lower at one of its ends
      pub between_ends : Lower c g h ↔ (Lower (2 * max g.xw h.xw) g h ⊎ Lower (2 * min g.xe h.xe) g h)
      between_ends = (out, into)
        where
          out : Lower c g h → Lower (2 * overlap_west g h) g h ⊎ Lower (2 * overlap_east g h) g h
          out l = ⊎_elim (λ u. u.0.1) (λ u. absurd (omega (arith, u.1))) one_lower

          into : Lower (2 * overlap_west g h) g h ⊎ Lower (2 * overlap_east g h) g h → Lower c g h
          into d = ⊎_elim (λ u. u.1) (λ u. absurd (⊎_elim (λ l. omega (arith, l, u.0.0.0)) (λ l. omega (arith, l, u.0.0.1)) d)) one_lower

pub conflict_symmetric : (g h : Segment) → Conflict g h → Conflict h g
conflict_symmetric g h c = rw (max_comm h.xw g.xw, min_comm h.xe g.xe) (c.0, turned (overlap_west g h) (overlap_east g h) c.1)
  where
    turned : (a b : ℕ) → ConflictOn a b g h → ConflictOn a b h g
    turned a b (inl (inl o)) = inl (inr o)
    turned a b (inl (inr o)) = inl (inl o)
    turned a b (inr (inl o)) = inr (inl (sym o.0, sym o.1))
    turned a b (inr (inr (inl o))) = inr (inr (inl (sym o.0, λ e. o.1 (sym e))))
    turned a b (inr (inr (inr o))) = inr (inr (inr (sym o.0, λ e. o.1 (sym e))))
