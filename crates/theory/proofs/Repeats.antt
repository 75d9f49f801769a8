-- Vertices at one point stand side by side in the order of points, so that the lowest one that is the same point as an earlier one is found along it.
use mathlib.Core.Path.{◌≡◌, refl, sym, ap, ◌∙◌}
use mathlib.Core.Bool.{Bool, true, not}
use mathlib.Core.List.{List, []}
use mathlib.Core.Logic.{◌⊎◌, inl, inr, ⊎_elim}
use Prim.Native.Nat.{ℕ, zero, suc, ◌+◌, ◌-◌, ◌<◌, ◌≤◌, ◌^◌, min}
use native.Mathlib.Nat.{le_refl, eq-or-lt_of_le, not-suc-le-zero}
use native.Mathlib.Decide.{dec_le}
use native.Mathlib.Numerals.{add-one}
use native.Mathlib.Omega.{arith}
use lib.Dec.{eqb}
use lib.IntN.{ℤ, pos}
use lib.ListN.{length, get_or}
use borrow.Author.Tests.{eqb-true, eq-eqb, not-true}
use Rattle.subdivision.specs.Formula.{Formula, both, is_equal, not_so, holds, Means}
use Rattle.std.specs.Prelude.{Option, Some, None, MatchOption}
use Rattle.subdivision.specs.Lowest.{lowest, found, first}
use Rattle.subdivision.specs.Order.{Before, SortedBelow}
use Rattle.subdivision.specs.PointOrder.{PointBefore, ByPoint}
use Rattle.subdivision.specs.Sheet.{Sheet, sheet_of, vertex_count, x_of, y_of, vertex_x, vertex_y}
use Rattle.subdivision.specs.Rules.{vertex_new}
use Rattle.subdivision.specs.Accepted.{Rule1}
use Rattle.theory.proofs.Decide.{below_suc, true_or_false, means, denies, fails, broken_item}
use Rattle.theory.proofs.Groups.{pair_key}
use Rattle.theory.proofs.Lowest.{least_of, least_is_lowest, least_le_item, least_is_one, found_below, found_past}
use Rattle.theory.proofs.Order.{before_irrefl, before_trans}

-- vertices u and v are the same point
abbrev pub same_point : List ℤ → ℕ → ℕ → Formula
same_point vertices u v =
    both (is_equal (vertex_x vertices u) (vertex_x vertices v)) (is_equal (vertex_y vertices u) (vertex_y vertices v))

-- the key of vertex v: its x, and then its y
abbrev pub point_key : List ℤ → ℕ → ℕ
point_key vertices v = pair_key (vertex_x vertices v) (vertex_y vertices v)

-- u and v are the same point where they have one key
abbrev pub OnePoint : List ℤ → ℕ → ℕ → Type 0
OnePoint vertices u v = point_key vertices u ≡ point_key vertices v → Means (same_point vertices u v)

-- the number after place i of an order
abbrev pub after : List ℕ → ℕ → ℕ
after l i = get_or l (i + 1) 0

-- the vertices at place i of an order and after it have one key
abbrev pub alike : List ℤ → List ℕ → ℕ → Bool
alike vertices l i = eqb (point_key vertices (get_or l i 0)) (point_key vertices (after l i))

-- equal keys are keys of equal pairs
pub pair_key_same : (a b c d : ℕ) → b < 2 ^ 32 → d < 2 ^ 32 → pair_key a b ≡ pair_key c d → (a ≡ c) × (b ≡ d)
pair_key_same a b c d h k e = (omega arith, omega arith)

-- by key, then by number is by x, then by y, then by number, where each y fits the key's lower half
point_before : (vertices : List ℤ) (u v : ℕ) → vertex_y vertices u < 2 ^ 32 → vertex_y vertices v < 2 ^ 32 → Before (point_key vertices) u v → PointBefore vertices u v
point_before vertices u v h k (inl p) = ⊎_elim (λ e. inr (e, inl (omega arith))) inl (eq-or-lt_of_le west)
  where
    west : vertex_x vertices u ≤ vertex_x vertices v
    west = omega arith
point_before vertices u v h k (inr (e, p)) =
    let same = pair_key_same (vertex_x vertices u) (vertex_y vertices u) (vertex_x vertices v) (vertex_y vertices v) h k e in
    inr (same.0, inr (same.1, p))

-- the vertices sorted by their keys are in order of their points
pub sorted_by_point : (vertices : List ℤ) (n : ℕ) (l : List ℕ) → ((v : ℕ) → v < n → vertex_y vertices v < 2 ^ 32)
    → SortedBelow (point_key vertices) n l → ByPoint vertices l
sorted_by_point vertices n l fits s i j h k =
    point_before vertices (get_or l i 0) (get_or l j 0) (fits (get_or l i 0) (s.numbers i (omega (arith, s.long)))) (fits (get_or l j 0) (s.numbers j (omega (arith, s.long)))) (s.ascending i j h (omega (arith, s.long)))

module _ (key : ℕ → ℕ) (n : ℕ) (l : List ℕ) (s : SortedBelow key n l) where
  -- of two neighbours with one key the first has the lower number
  pub neighbours_rise : (i : ℕ) → i + 1 < n → key (get_or l i 0) ≡ key (get_or l (i + 1) 0) → get_or l i 0 < get_or l (i + 1) 0
  neighbours_rise i h e = go (s.ascending i (i + 1) (omega arith) h)
    where
      go : Before key (get_or l i 0) (get_or l (i + 1) 0) → get_or l i 0 < get_or l (i + 1) 0
      go (inl p) = absurd (omega arith)
      go (inr p) = p.1

  -- the places of two numbers stand as the numbers do
  places_rise : (i j : ℕ) → i < n → Before key (get_or l i 0) (get_or l j 0) → i < j
  places_rise i j h b = omega (arith, not_above, not_same)
    where
      not_above : ¬ (j < i)
      not_above g = before_irrefl key (get_or l i 0) (before_trans key b (s.ascending j i g h))

      not_same : ¬ (i ≡ j)
      not_same e = before_irrefl key (get_or l j 0) (rw e at b)

  -- what stands between two numbers with one key has that key
  key_between : (i j k : ℕ) → i ≤ j → j < k → k < n → key (get_or l i 0) ≡ key (get_or l k 0) → key (get_or l j 0) ≡ key (get_or l k 0)
  key_between i j k g h m e = omega (arith, low (s.ascending j k h m), high)
    where
      low : Before key (get_or l j 0) (get_or l k 0) → key (get_or l j 0) ≤ key (get_or l k 0)
      low (inl p) = omega arith
      low (inr p) = omega arith

      up : Before key (get_or l i 0) (get_or l j 0) → key (get_or l i 0) ≤ key (get_or l j 0)
      up (inl p) = omega arith
      up (inr p) = omega arith

      high : key (get_or l i 0) ≤ key (get_or l j 0)
      high = ⊎_elim (λ (q : i ≡ j). rw q (le_refl _)) (λ q. up (s.ascending i j q (omega arith))) (eq-or-lt_of_le g)

  -- a number with the key of an earlier one has a number with its key just before it
  pub repeat_beside : (u v : ℕ) → u < v → v < n → key u ≡ key v → (i : ℕ) × (i < n - 1) × (key (get_or l i 0) ≡ key v) × (get_or l (i + 1) 0 ≡ v)
  repeat_beside u v h m e = go (s.holding u (omega arith)) (s.holding v m)
    where
      go : (i : ℕ) × (i < n) × (get_or l i 0 ≡ u) → (j : ℕ) × (j < n) × (get_or l j 0 ≡ v)
          → (i : ℕ) × (i < n - 1) × (key (get_or l i 0) ≡ key v) × (get_or l (i + 1) 0 ≡ v)
      go (i, p, a) (zero, q, b) = absurd (not-suc-le-zero (places_rise i zero p (rw (a, b) (inr (e, h)))))
      go (i, p, a) (suc j, q, b) =
          let rise : i < suc j = places_rise i (suc j) p (rw (a, b) (inr (e, h))) in
          let first : key (get_or l i 0) ≡ key (get_or l (suc j) 0) = rw (a, b) e in
          (j, omega arith, key_between i j (suc j) (omega arith) (omega arith) q first ∙ ap key b, rw (add-one j) b)

-- two neighbours in an order, the later at place i + 1, have one key
abbrev pub Alike : List ℤ → List ℕ → ℕ → Type 0
Alike vertices l i = point_key vertices (get_or l i 0) ≡ point_key vertices (get_or l (i + 1) 0)

-- of the later ones of the first c neighbours with one key, the least: none where no two have one
abbrev pub IsLeastOf : List ℤ → List ℕ → ℕ → Option ℕ → Type 0
IsLeastOf vertices l c r =
    MatchOption r ((i : ℕ) → i < c → Alike vertices l i → ⊥)
    (λ v. ((i : ℕ) × (i < c) × Alike vertices l i × (get_or l (i + 1) 0 ≡ v)) × ((i : ℕ) → i < c → Alike vertices l i → v ≤ get_or l (i + 1) 0))

-- the least of all of them
abbrev pub IsLeastRepeat : List ℤ → List ℕ → Option ℕ → Type 0
IsLeastRepeat vertices l r = IsLeastOf vertices l (length l - 1) r

module _ (vertices : List ℤ) (l : List ℕ) (c : ℕ) where
  pub least_of_none : IsLeastOf vertices l 0 None
  least_of_none i h = absurd (not-suc-le-zero h)

  -- two neighbours more, whose keys differ
  pub least_passed : (r : Option ℕ) → IsLeastOf vertices l c r → (Alike vertices l c → ⊥) → IsLeastOf vertices l (c + 1) r
  least_passed None none apart = λ i h. ⊎_elim (λ (e : i ≡ c). rw e apart) (none i) (below_suc (rw (add-one c) at h))
  least_passed (Some v) (at, least) apart =
      ((at.0, omega (arith, at.1), at.2, at.3), λ i h. ⊎_elim (λ (e : i ≡ c). rw e (λ a. absurd (apart a))) (least i) (below_suc (rw (add-one c) at h)))

  -- two neighbours more, the first with one key
  pub least_begun : IsLeastOf vertices l c None → Alike vertices l c → IsLeastOf vertices l (c + 1) (Some (get_or l (c + 1) 0))
  least_begun none one =
      ((c, omega arith, one, refl), λ i h. ⊎_elim (λ (e : i ≡ c). rw e (λ a. le_refl _)) (λ k a. absurd (none i k a)) (below_suc (rw (add-one c) at h)))

  -- two neighbours more with one key, after others
  pub least_lowered : (w m : ℕ) → IsLeastOf vertices l c (Some w) → Alike vertices l c → m ≡ min (get_or l (c + 1) 0) w
      → IsLeastOf vertices l (c + 1) (Some m)
  least_lowered w m (at, least) one low =
      (place (dec_le w (get_or l (c + 1) 0)), λ i h. ⊎_elim (λ (e : i ≡ c). rw e (λ a. omega arith)) (λ k a. omega (arith, least i k a)) (below_suc (rw (add-one c) at h)))
    where
      place : Dec (w ≤ get_or l (c + 1) 0) → (i : ℕ) × (i < c + 1) × Alike vertices l i × (get_or l (i + 1) 0 ≡ m)
      place (yes h) = (at.0, omega (arith, at.1), at.2, omega (arith, at.3))
      place (no h) = (c, omega arith, one, omega arith)

module _ (vertices : List ℤ) (n : ℕ) (l : List ℕ) where
  -- the least of the first c neighbours with one key, where there is one, is the least of the items that are alike
  least_is_found : (c : ℕ) → ((i : ℕ) → i < c → after l i < n) → (r : Option ℕ) → IsLeastOf vertices l c r
      → r ≡ found n (least_of (alike vertices l) (after l) c n)
  least_is_found c below None none = go (least_is_one (alike vertices l) (after l) n c)
    where
      go : {m : ℕ} → (m ≡ n) ⊎ ((i : ℕ) × (i < c) × (alike vertices l i ≡ true) × (m ≡ after l i)) → None ≡ found n m
      go (inl e) = sym (found_past n _ (omega (arith, e)))
      go (inr f) = absurd (none f.0 f.1 (eqb-true (point_key vertices (get_or l f.0 0)) (point_key vertices (after l f.0)) f.2))
  least_is_found c below (Some v) (at, least) = sym (ap (found n) same ∙ found_below n v (omega (arith, below at.0 at.1, at.3)))
    where
      lower : ℕ
      lower = least_of (alike vertices l) (after l) c n

      no_higher : lower ≤ v
      no_higher = omega (arith, at.3, least_le_item (alike vertices l) (after l) n c at.0 at.1 (eq-eqb (point_key vertices (get_or l at.0 0)) (point_key vertices (after l at.0)) at.2))

      no_lower : (lower ≡ n) ⊎ ((i : ℕ) × (i < c) × (alike vertices l i ≡ true) × (lower ≡ after l i)) → v ≤ lower
      no_lower (inl e) = omega (arith, e, below at.0 at.1, at.3)
      no_lower (inr f) = omega (arith, f.3, least f.0 f.1 (eqb-true (point_key vertices (get_or l f.0 0)) (point_key vertices (after l f.0)) f.2))

      same : lower ≡ v
      same = omega (arith, no_higher, no_lower (least_is_one (alike vertices l) (after l) n c))

  -- where each y fits the key's lower half, neighbours with one key are one point
  pub fits_one_point : SortedBelow (point_key vertices) n l → ((v : ℕ) → v < n → vertex_y vertices v < 2 ^ 32)
      → (i : ℕ) → i < length l - 1 → OnePoint vertices (get_or l i 0) (after l i)
  fits_one_point s fits i h =
      pair_key_same _ _ _ _ (fits _ (s.numbers i (omega (arith, s.long)))) (fits _ (s.numbers (i + 1) (omega (arith, s.long))))

  -- where equal keys are keys of one point, the least vertex with the key of the one before it in the order is the lowest that is the same point as an earlier one
  pub least_repeat : SortedBelow (point_key vertices) n l → ((i : ℕ) → i < length l - 1 → OnePoint vertices (get_or l i 0) (after l i))
      → least_of (alike vertices l) (after l) (length l - 1) n ≡ lowest (λ v. not (holds (vertex_new (sheet_of (pos 0) (pos 0) vertices [] 0) v))) n
  least_repeat s one = least_is_lowest (alike vertices l) (after l) (λ v. not (holds (new v))) (length l - 1) n sound whole
    where
      key : ℕ → ℕ
      key = point_key vertices

      new : ℕ → Formula
      new v = vertex_new (sheet_of (pos 0) (pos 0) vertices [] 0) v

      sound : (i : ℕ) → i < length l - 1 → alike vertices l i ≡ true → (after l i < n) × (not (holds (new (after l i))) ≡ true)
      sound i h e =
          let same = eqb-true (key (get_or l i 0)) (key (after l i)) e in
          (s.numbers (i + 1) (omega (arith, s.long)), ap not (fails (new (after l i)) (λ m. m (get_or l i 0) (neighbours_rise key n l s i (omega (arith, s.long)) same) (one i h same))))

      beside : (v : ℕ) → (i : ℕ) × (i < n - 1) × (key (get_or l i 0) ≡ key v) × (after l i ≡ v)
          → (i : ℕ) × (i < length l - 1) × (alike vertices l i ≡ true) × (after l i ≡ v)
      beside v (i, p, q, r) = (i, omega (arith, s.long), eq-eqb (key (get_or l i 0)) (key (after l i)) (q ∙ ap key (sym r)), r)

      repeated : (v : ℕ) → v < n → (u : ℕ) × (u < v) × (Means (not_so (same_point vertices u v)) → ⊥)
          → (i : ℕ) × (i < length l - 1) × (alike vertices l i ≡ true) × (after l i ≡ v)
      repeated v h (u, k, d) = beside v (repeat_beside key n l s u v k h same)
        where
          point : Means (same_point vertices u v)
          point = ⊎_elim (means (same_point vertices u v)) (λ e. absurd (d (denies (same_point vertices u v) e))) (true_or_false (holds (same_point vertices u v)))

          same : key u ≡ key v
          same = rw (point.0, point.1)

      whole : (v : ℕ) → v < n → not (holds (new v)) ≡ true
          → (i : ℕ) × (i < length l - 1) × (alike vertices l i ≡ true) × (after l i ≡ v)
      whole v h e = repeated v h (broken_item v (λ u. not_so (same_point vertices u v)) (not-true (holds (new v)) e))

  -- and where neighbours with one key are one point, the least of the later ones of them is the first that is the same point as an earlier one
  pub first_least_repeat : SortedBelow (point_key vertices) n l → ((i : ℕ) → i < length l - 1 → OnePoint vertices (get_or l i 0) (after l i))
      → (r : Option ℕ) → IsLeastRepeat vertices l r → r ≡ first (λ v. not (holds (vertex_new (sheet_of (pos 0) (pos 0) vertices [] 0) v))) n
  first_least_repeat s one r is =
      least_is_found (length l - 1) (λ i h. s.numbers (i + 1) (omega (arith, s.long))) r is ∙ ap (found n) (least_repeat s one)

-- rule 1: two vertices that are the same point are one
pub same_point_lem : (s : Sheet) → Rule1 s → (v u : ℕ) → v < vertex_count s → u < vertex_count s → x_of s v ≡ x_of s u → y_of s v ≡ y_of s u → v ≡ u
same_point_lem s rule1 v u h k p q = omega (arith, not_before, not_after)
  where
    not_before : ¬ (v < u)
    not_before l = rule1.1 u k v l (p, q)

    not_after : ¬ (u < v)
    not_after l = rule1.1 v h u l (sym p, sym q)
