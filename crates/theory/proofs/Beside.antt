-- Two edges with a common end: their order on a line beside it is the same on every line that both reach, and rule 4 keeps them unlevel there.
use mathlib.Core.Path.{◌≡◌, sym, ap, ◌∙◌}
use mathlib.Core.Bool.{Bool, true, false}
use mathlib.Core.Logic.{inl, inr}
use Prim.Native.Nat.{ℕ, ◌+◌, ◌*◌, ◌-◌, ◌<◌, ◌≤◌, min, max}
use native.Mathlib.Nat.{mul-lt-mul_of_pos_right, lt_of_mul-lt-mul_right, eq_of_mul-eq-mul_right}
use native.Mathlib.Omega.{arith}
use Rattle.subdivision.specs.declared.Segment.{Segment}
use Rattle.subdivision.specs.Lines.{width, height}
use Rattle.subdivision.specs.Accepted.{Lower, Level, Conflict}

-- the doubled line at the distance d/2 from the abscissa x, on its east or on its west
abbrev pub line_beside : Bool → ℕ → ℕ → ℕ
line_beside eastern x d = elim eastern [ true ↦ 2 * x + d | false ↦ 2 * x - d ]

-- x of the end of an edge by which it belongs to an eastern or a western fan
abbrev pub near_x : Bool → Segment → ℕ
near_x eastern g = elim eastern [ true ↦ g.xw | false ↦ g.xe ]

-- y of that end
abbrev pub near_y : Bool → Segment → ℕ
near_y eastern g = elim eastern [ true ↦ g.yw | false ↦ g.ye ]

-- y of the other end
abbrev pub far_y : Bool → Segment → ℕ
far_y eastern g = elim eastern [ true ↦ g.ye | false ↦ g.yw ]

-- a height at the doubled distance d from an end at the height y, of an edge that is w wide and ends at the height z
abbrev on_way : ℕ → ℕ → ℕ → ℕ → ℕ
on_way y z w d = z * d + y * (2 * w - d)

-- the height of an edge beside its end
height_beside : (eastern : Bool) (g : Segment) (d : ℕ) → g.xw < g.xe → d ≤ 2 * width g
    → height (line_beside eastern (near_x eastern g) d) g ≡ on_way (near_y eastern g) (far_y eastern g) (width g) d
height_beside true g d h k =
    let far : 2 * g.xe - (2 * g.xw + d) ≡ 2 * width g - d = omega arith in
    let near : 2 * g.xw + d - 2 * g.xw ≡ d = omega arith in
    rw (far, near) (omega arith)
height_beside false g d h k =
    let far : 2 * g.xe - d - 2 * g.xw ≡ 2 * width g - d = omega arith in
    let near : 2 * g.xe - (2 * g.xe - d) ≡ d = omega arith in
    rw (far, near)

-- the heights of two edges at the distance d from their common end, multiplied out by the two widths
multiplied : (y a p b q d : ℕ) → d ≤ 2 * p → d ≤ 2 * q
    → on_way y a p d * q + (b * p + y * q) * d ≡ on_way y b q d * p + (a * q + y * p) * d
multiplied y a p b q d h k = go (2 * p - d) (2 * q - d) (omega arith) (omega arith)
  where
    go : (u v : ℕ) → 2 * p ≡ u + d → 2 * q ≡ v + d → (a * d + y * u) * q + (b * p + y * q) * d ≡ (b * d + y * v) * p + (a * q + y * p) * d
    go u v m n =
        let i : y * q * (2 * p) ≡ y * q * (u + d) = ap (λ (k : ℕ). y * q * k) m in
        let j : y * p * (2 * q) ≡ y * p * (v + d) = ap (λ (k : ℕ). y * p * k) n in
        omega arith

-- two edges of one fan: the common end is at (x, y)
pub record OneEnd (eastern : Bool) (x y : ℕ) (g h : Segment) : Type 0 where
  pub one_runs : g.xw < g.xe
  pub other_runs : h.xw < h.xe
  pub one_x : near_x eastern g ≡ x
  pub other_x : near_x eastern h ≡ x
  pub one_y : near_y eastern g ≡ y
  pub other_y : near_y eastern h ≡ y

-- both edges reach the line at the distance d/2
abbrev pub BothReach : Segment → Segment → ℕ → Type 0
BothReach g h d = (d ≤ 2 * width g) × (d ≤ 2 * width h)

module _ (eastern : Bool) (x y : ℕ) (g h : Segment) (o : OneEnd eastern x y g h) where
  height_from : (k : Segment) (d : ℕ) → k.xw < k.xe → near_x eastern k ≡ x → near_y eastern k ≡ y → d ≤ 2 * width k
      → height (line_beside eastern x d) k ≡ on_way y (far_y eastern k) (width k) d
  height_from k d r ex ey b =
      ap (λ (z : ℕ). height (line_beside eastern z d) k) (sym ex) ∙ height_beside eastern k d r b ∙ ap (λ (z : ℕ). on_way z (far_y eastern k) (width k) d) ey

  -- the two heights at the distance d, multiplied out by the two widths
  at_distance : (d : ℕ) → BothReach g h d
      → height (line_beside eastern x d) g * width h + (far_y eastern h * width g + y * width h) * d
      ≡ height (line_beside eastern x d) h * width g + (far_y eastern g * width h + y * width g) * d
  at_distance d b =
      rw (height_from g d o.one_runs o.one_x o.one_y b.0, height_from h d o.other_runs o.other_x o.other_y b.1)
      (multiplied y (far_y eastern g) (width g) (far_y eastern h) (width h) d b.0 b.1)

  -- lower on one line beside the end is lower on every one
  pub lower_moves : (d e : ℕ) → BothReach g h d → 0 < e → BothReach g h e → Lower (line_beside eastern x d) g h → Lower (line_beside eastern x e) g h
  lower_moves d e b p c l =
      let u : (far_y eastern g * width h + y * width g) * d < (far_y eastern h * width g + y * width h) * d = omega (arith, at_distance d b) in
      let v : (far_y eastern g * width h + y * width g) * e < (far_y eastern h * width g + y * width h) * e = mul-lt-mul_of_pos_right (lt_of_mul-lt-mul_right d u) p in
      omega (arith, at_distance e c)

  -- level on one line beside the end is level on every one
  pub level_moves : (d e : ℕ) → 0 < d → BothReach g h d → BothReach g h e → Level (line_beside eastern x d) g h → Level (line_beside eastern x e) g h
  level_moves d e p b c l =
      let u : (far_y eastern g * width h + y * width g) * d ≡ (far_y eastern h * width g + y * width h) * d = omega (arith, at_distance d b) in
      let v : (far_y eastern g * width h + y * width g) * e ≡ (far_y eastern h * width g + y * width h) * e =
      ap (λ (k : ℕ). k * e) (eq_of_mul-eq-mul_right d p (far_y eastern g * width h + y * width g) (far_y eastern h * width g + y * width h) u) in
      omega (arith, at_distance e c)

  pub level_at_end : Level (line_beside eastern x 0) g h
  level_at_end = omega (arith, at_distance 0 (omega arith))

-- the end of the overlap of two edges of one fan that is at their common end
at_near_end : (eastern : Bool) (x y : ℕ) (g h : Segment) → OneEnd eastern x y g h
    → 2 * (elim eastern [ true ↦ max g.xw h.xw | false ↦ min g.xe h.xe ]) ≡ line_beside eastern x 0
at_near_end true x y g h o = omega arith
at_near_end false x y g h o = omega arith

-- the other end of their overlap is as far off as the shorter one is wide
pub at_far_end : (eastern : Bool) (x y : ℕ) (g h : Segment) → OneEnd eastern x y g h
    → 2 * (elim eastern [ true ↦ min g.xe h.xe | false ↦ max g.xw h.xw ]) ≡ line_beside eastern x (2 * min (width g) (width h))
at_far_end true x y g h o = omega arith
at_far_end false x y g h o = omega arith

-- two edges reach as far as the shorter one is wide
pub reach_far : (g h : Segment) → BothReach g h (2 * min (width g) (width h))
reach_far g h = within (width g) (width h)
  where
    within : (p q : ℕ) → (2 * min p q ≤ 2 * p) × (2 * min p q ≤ 2 * q)
    within p q = omega arith

-- two edges reach the half line beside a common end
pub reach_near : (g h : Segment) → g.xw < g.xe → h.xw < h.xe → BothReach g h 1
reach_near g h r q = omega arith

-- edges of one fan overlap
pub fan_overlaps : (eastern : Bool) (x y : ℕ) (g h : Segment) → OneEnd eastern x y g h → max g.xw h.xw < min g.xe h.xe
fan_overlaps true x y g h o = omega arith
fan_overlaps false x y g h o = omega arith

-- edges of one fan that are level beside their common end break rule 4
pub level_conflicts : (eastern : Bool) (x y : ℕ) (g h : Segment) → OneEnd eastern x y g h → Level (line_beside eastern x 1) g h → Conflict g h
level_conflicts eastern x y g h o l = (fan_overlaps eastern x y g h o, inr (inl (sorted eastern near far)))
  where
    near : Level (2 * (elim eastern [ true ↦ max g.xw h.xw | false ↦ min g.xe h.xe ])) g h
    near = rw (at_near_end eastern x y g h o) (level_at_end eastern x y g h o)

    far : Level (2 * (elim eastern [ true ↦ min g.xe h.xe | false ↦ max g.xw h.xw ])) g h
    far = rw (at_far_end eastern x y g h o) (level_moves eastern x y g h o 1 (2 * min (width g) (width h)) (omega arith) (reach_near g h o.one_runs o.other_runs) (reach_far g h) l)

    sorted : (eastern : Bool) → Level (2 * (elim eastern [ true ↦ max g.xw h.xw | false ↦ min g.xe h.xe ])) g h
        → Level (2 * (elim eastern [ true ↦ min g.xe h.xe | false ↦ max g.xw h.xw ])) g h
        → Level (2 * max g.xw h.xw) g h × Level (2 * min g.xe h.xe) g h
    sorted true m n = (m, n)
    sorted false m n = (n, m)
