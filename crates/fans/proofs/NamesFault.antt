-- The lowest vertex that breaks rule 5, found by order tests on the fans and along the points in order.
use mathlib.Core.Path.{◌≡◌, refl, sym, ap, ◌∙◌, subst₂}
use mathlib.Core.Bool.{Bool, true, false, not}
use Prim.Native.Nat.{ℕ, suc, ◌-◌, ◌<◌, min}
use native.Mathlib.Omega.{arith}
use borrow.Author.Tests.{not-true}
use Rattle.subdivision.specs.Formula.{Formula, is_equal, both, implies, not_so, holds, Means}
use Rattle.subdivision.specs.Lowest.{lowest}
use Rattle.subdivision.specs.Sheet.{Sheet, west_margin, vertex_count, x_of}
use Rattle.subdivision.specs.Rules.{western_names, eastern_names, tops_and_bottoms, next_on_margin, margin_names, names_agree}
use Rattle.subdivision.specs.Accepted.{Rule1, Rule2, Rule4}
use Rattle.theory.proofs.Decide.{means, held, fails, broken_item, broken_implies}
use Rattle.theory.proofs.Lowest.{least_is_lowest}
use Rattle.theory.proofs.LowestOfTwo.{either_of, lowest_of_two}
use Rattle.fans.specs.Fans.{fan_of, margin_tied, vertex_fault, names_fault}
use Rattle.fans.proofs.FanLists.{fan_of_list}
use Rattle.fans.proofs.Rule5.{top_meets_bottom, vertex_tied_decides, margin_tied_decides}
use Rattle.fans.proofs.Margin.{point_at, point_below, next_place_is_next, next_is_next_place}

module _ (s : Sheet) (rule1 : Rule1 s) (rule2 : Rule2 s) (rule4 : Rule4 s) where
  -- rule 5 on the margin, by the lists of two eastern fans
  abbrev tied_on : ℕ → ℕ → Formula
  tied_on v u = margin_tied s.vertices s.edges (fan_of s.edges true v) (fan_of s.edges true u)

  -- what the test at a place of the points in order says
  abbrev fault_at : ℕ → Formula
  fault_at i =
      both (both (is_equal (x_of s (point_at s i)) (west_margin s)) (is_equal (x_of s (point_at s (suc i))) (west_margin s)))
      (not_so (tied_on (point_at s i) (point_at s (suc i))))

  tied_on_decides : (v u : ℕ) → holds (tied_on v u) ≡ holds (top_meets_bottom s v u)
  tied_on_decides v u =
      margin_tied_decides s rule2 rule4 v u (fan_of s.edges true v) (fan_of s.edges true u) (fan_of_list s true v) (fan_of_list s true u)

  -- a vertex at a place that fails breaks rule 5 on the margin
  fault_breaks : (i : ℕ) → i < vertex_count s - 1 → holds (fault_at i) ≡ true
      → (point_at s i < vertex_count s) × (not (holds (margin_names s (point_at s i))) ≡ true)
  fault_breaks i h e = (point_below s i (omega arith), ap not (fails (margin_names s (point_at s i)) broken))
    where
      fault : Means (fault_at i)
      fault = means (fault_at i) e

      room : suc i < vertex_count s
      room = omega arith

      broken : Means (margin_names s (point_at s i)) → ⊥
      broken m =
          fault.1
          (means (tied_on (point_at s i) (point_at s (suc i)))
          (tied_on_decides (point_at s i) (point_at s (suc i))
          ∙ held (top_meets_bottom s (point_at s i) (point_at s (suc i)))
          (m (point_at s (suc i)) (point_below s (suc i) room) (next_place_is_next s rule1 i room fault.0.0 fault.0.1))))

  -- a vertex that breaks rule 5 on the margin is at a place that fails
  break_has_fault : (v : ℕ) → v < vertex_count s → not (holds (margin_names s v)) ≡ true
      → (i : ℕ) × (i < vertex_count s - 1) × (holds (fault_at i) ≡ true) × (point_at s i ≡ v)
  break_has_fault v h e =
      found (broken_item (vertex_count s) (λ u. implies (next_on_margin s v u) (top_meets_bottom s v u)) (not-true (holds (margin_names s v)) e))
    where
      found : (u : ℕ) × (u < vertex_count s) × (Means (implies (next_on_margin s v u) (top_meets_bottom s v u)) → ⊥)
          → (i : ℕ) × (i < vertex_count s - 1) × (holds (fault_at i) ≡ true) × (point_at s i ≡ v)
      found (u, k, b) = at (next_is_next_place s rule1 v u h k apart.0)
        where
          apart : Means (next_on_margin s v u) × (Means (top_meets_bottom s v u) → ⊥)
          apart = broken_implies (next_on_margin s v u) (top_meets_bottom s v u) b

          at : (i : ℕ) × (suc i < vertex_count s) × (point_at s i ≡ v) × (point_at s (suc i) ≡ u)
              → (i : ℕ) × (i < vertex_count s - 1) × (holds (fault_at i) ≡ true) × (point_at s i ≡ v)
          at (i, r, p, q) = (i, omega arith, held (fault_at i) ((ap (x_of s) p ∙ apart.0.0.0, ap (x_of s) q ∙ apart.0.0.1), untied), p)
            where
              untied : Means (tied_on (point_at s i) (point_at s (suc i))) → ⊥
              untied t =
                  apart.1
                  (subst₂ (λ (j k : ℕ). Means (top_meets_bottom s j k)) p q
                  (means (top_meets_bottom s (point_at s i) (point_at s (suc i)))
                  (sym (tied_on_decides (point_at s i) (point_at s (suc i))) ∙ held (tied_on (point_at s i) (point_at s (suc i))) t)))

  -- a vertex breaks rule 5 where it breaks it at its own fans, or on the margin
  names_broken : (v : ℕ) → not (holds (names_agree s v)) ≡ either_of (vertex_fault s.vertices s.edges v) (not (holds (margin_names s v)))
  unfolding vertex_fault
  names_broken v =
      rw (vertex_tied_decides s rule2 rule4 v (fan_of s.edges false v) (fan_of s.edges true v) (fan_of_list s false v) (fan_of_list s true v))
      (regrouped (holds (both (western_names s v) (eastern_names s v))) (holds (tops_and_bottoms s v)) (holds (margin_names s v)))
    where
      regrouped : (a b c : Bool) → not (elim a [ true ↦ elim b [ true ↦ c | false ↦ false ] | false ↦ false ]) ≡ either_of (not (elim a [ true ↦ b | false ↦ false ])) (not c)
      regrouped true true c = refl
      regrouped true false c = refl
      regrouped false b c = refl

  -- the fault found is the lowest vertex that breaks rule 5
  pub names_fault_lowest : names_fault (west_margin s) s.vertices s.edges ≡ lowest (λ v. not (holds (names_agree s v))) (vertex_count s)
  names_fault_lowest =
      ap (λ (k : ℕ). min (lowest (vertex_fault s.vertices s.edges) (vertex_count s)) k)
      (least_is_lowest (λ i. holds (fault_at i)) (point_at s) (λ v. not (holds (margin_names s v))) (vertex_count s - 1) (vertex_count s) fault_breaks break_has_fault)
      ∙ sym (lowest_of_two (λ v. not (holds (names_agree s v))) (vertex_fault s.vertices s.edges) (λ v. not (holds (margin_names s v))) (vertex_count s) (λ v h. names_broken v))
