-- Along the points in order the next vertex up the western margin stands at the next place.
use mathlib.Core.Path.{◌≡◌, ap}
use mathlib.Core.Logic.{inl, inr, ⊎_elim}
use Prim.Native.Nat.{ℕ, suc, ◌<◌, ◌≤◌}
use native.Mathlib.Nat.{eq-or-lt_of_le}
use native.Mathlib.Omega.{arith}
use lib.ListN.{get_or}
use Rattle.subdivision.specs.Order.{Before, SortedBelow}
use Rattle.subdivision.specs.Sheet.{Sheet, west_margin, vertex_count, x_of, y_of}
use Rattle.subdivision.specs.Accepted.{Rule1, NextOnMargin}
use Rattle.theory.proofs.Groups.{pair_key}
use Rattle.theory.proofs.Repeats.{same_point_lem}
use Rattle.theory.proofs.Order.{sorted_below}
use Rattle.fans.specs.Fans.{point_order}

-- two keys that are equal have equal parts
key_parts : (a b c d : ℕ) → b < 4294967296 → d < 4294967296 → pair_key a b ≡ pair_key c d → (a ≡ c) × (b ≡ d)
key_parts a b c d h k e = omega arith

module _ (s : Sheet) where
  -- the key of vertex v: by x, then by y
  abbrev point_key : ℕ → ℕ
  point_key v = pair_key (x_of s v) (y_of s v)

  -- the vertex at place i of the points in order
  abbrev pub point_at : ℕ → ℕ
  point_at i = get_or (point_order s.vertices (vertex_count s)) i 0

  points_sorted : SortedBelow point_key (vertex_count s) (point_order s.vertices (vertex_count s))
  points_sorted = sorted_below point_key (vertex_count s)

  pub point_below : (i : ℕ) → i < vertex_count s → point_at i < vertex_count s
  point_below i h = points_sorted.numbers i h

  module _ (rule1 : Rule1 s) where
    y_fits : (v : ℕ) → v < vertex_count s → y_of s v < 4294967296
    y_fits v h = omega (arith, (rule1.0 v h).0.1.1)

    -- a later place has a higher key
    later_higher : (i j : ℕ) → i < j → j < vertex_count s → point_key (point_at i) < point_key (point_at j)
    later_higher i j h k = go (point_at i) (point_at j) (point_below i (omega arith)) (point_below j k) (points_sorted.ascending i j h k)
      where
        go : (v u : ℕ) → v < vertex_count s → u < vertex_count s → Before point_key v u → point_key v < point_key u
        go v u a b (inl l) = l
        go v u a b (inr l) =
            let parts = key_parts (x_of s v) (y_of s v) (x_of s u) (y_of s u) (y_fits v a) (y_fits u b) l.0 in
            absurd (omega (arith, same_point_lem s rule1 v u a b parts.0 parts.1, l.1))

    later_at_least : (i j : ℕ) → i ≤ j → j < vertex_count s → point_key (point_at i) ≤ point_key (point_at j)
    later_at_least i j h k =
        ⊎_elim (λ (e : i ≡ j). let same : point_key (point_at i) ≡ point_key (point_at j) = ap (λ (n : ℕ). point_key (point_at n)) e in omega arith)
        (λ l. let m = later_higher i j l k in omega arith) (eq-or-lt_of_le h)

    -- a higher key has a later place
    higher_later : (i j : ℕ) → i < vertex_count s → point_key (point_at i) < point_key (point_at j) → i < j
    higher_later i j h l = omega (arith, not_at_least)
      where
        not_at_least : ¬ (j ≤ i)
        not_at_least k = let m = later_at_least j i k h in omega arith

    -- where a place and the next are both at W, the next vertex up the margin is at the next place
    pub next_place_is_next : (i : ℕ) → suc i < vertex_count s → x_of s (point_at i) ≡ west_margin s → x_of s (point_at (suc i)) ≡ west_margin s
        → NextOnMargin s (point_at i) (point_at (suc i))
    next_place_is_next i h p q = ((p, q), (above, none))
      where
        step : point_key (point_at i) < point_key (point_at (suc i))
        step = later_higher i (suc i) (omega arith) h

        above : y_of s (point_at i) < y_of s (point_at (suc i))
        above = omega (arith, step)

        none : (t : ℕ) → t < vertex_count s → (x_of s t ≡ west_margin s) × (y_of s (point_at i) < y_of s t) → y_of s (point_at (suc i)) ≤ y_of s t
        none t k m = at (points_sorted.holding t k)
          where
            at : (j : ℕ) × (j < vertex_count s) × (point_at j ≡ t) → y_of s (point_at (suc i)) ≤ y_of s t
            at (j, b, e) =
                let up : point_key (point_at i) < point_key (point_at j) = rw e (omega (arith, m.0, m.1)) in
                let far : point_key (point_at (suc i)) ≤ point_key t = rw e at (later_at_least (suc i) j (higher_later i j (omega arith) up) b) in
                omega (arith, m.0)

    -- the next vertex up the margin is at the next place
    pub next_is_next_place : (v u : ℕ) → v < vertex_count s → u < vertex_count s → NextOnMargin s v u
        → (i : ℕ) × (suc i < vertex_count s) × (point_at i ≡ v) × (point_at (suc i) ≡ u)
    next_is_next_place v u a b n = at (points_sorted.holding v a) (points_sorted.holding u b)
      where
        at : (i : ℕ) × (i < vertex_count s) × (point_at i ≡ v) → (j : ℕ) × (j < vertex_count s) × (point_at j ≡ u)
            → (i : ℕ) × (suc i < vertex_count s) × (point_at i ≡ v) × (point_at (suc i) ≡ u)
        at (i, h, d) (j, k, e) = (i, room, d, same_point_lem s rule1 w u (point_below (suc i) room) b across along)
          where
            w : ℕ
            w = point_at (suc i)

            later : i < j
            later = higher_later i j h (rw (d, e) (omega (arith, n.0, n.1.0)))

            room : suc i < vertex_count s
            room = omega (arith, later)

            from_v : point_key v < point_key w
            from_v = rw d at (later_higher i (suc i) (omega arith) room)

            to_u : point_key w ≤ point_key u
            to_u = rw e at (later_at_least (suc i) j later k)

            on_margin_lem : x_of s w ≡ west_margin s
            on_margin_lem = omega (arith, to_u, n.0.1, y_fits u b, (rule1.0 w (point_below (suc i) room)).1.0)

            across : x_of s w ≡ x_of s u
            across = omega (arith, on_margin_lem, n.0.1)

            along : y_of s w ≡ y_of s u
            along =
                let up : y_of s v < y_of s w = omega (arith, from_v, n.0.0, on_margin_lem) in
                omega (arith, to_u, across, n.1.1 w (point_below (suc i) room) (on_margin_lem, up))
