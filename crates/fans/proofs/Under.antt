-- The order test of two edges of a fan reads which is the lower on the half line beside the fan's vertex.
use mathlib.Core.Path.{◌≡◌}
use mathlib.Core.Bool.{Bool, true}
use Prim.Native.Nat.{ℕ, ◌*◌, ◌<◌, min}
use native.Mathlib.Omega.{arith}
use Rattle.subdivision.specs.declared.Segment.{Segment}
use Rattle.subdivision.specs.Formula.{Means}
use Rattle.subdivision.specs.Lines.{width}
use Rattle.subdivision.specs.Sheet.{Sheet, x_of, y_of, segment}
use Rattle.subdivision.specs.Accepted.{Lower, Rule2}
use Rattle.theory.proofs.Decide.{means, held}
use Rattle.theory.proofs.Beside.{line_beside, OneEnd, lower_moves, at_far_end, reach_far, reach_near, fan_overlaps}
use Rattle.theory.proofs.FanOrder.{OfFan, LowerBeside, fan_one_end}
use Rattle.geometry.specs.Crossing.{lower_beside}
use Rattle.fans.specs.Fans.{is_under}

module _ (eastern : Bool) (x y : ℕ) (g h : Segment) (o : OneEnd eastern x y g h) where
  -- lower at the far end of the overlap is lower beside the common end
  far_to_near : Means (lower_beside eastern g h) → Lower (line_beside eastern x 1) g h
  far_to_near l =
      lower_moves eastern x y g h o (2 * min (width g) (width h)) 1 (reach_far g h) (omega arith) (reach_near g h o.one_runs o.other_runs)
      (rw (at_far_end eastern x y g h o) at l.1)

  near_to_far : Lower (line_beside eastern x 1) g h → Means (lower_beside eastern g h)
  near_to_far l = (
    fan_overlaps eastern x y g h o,
    rw (at_far_end eastern x y g h o)
        (lower_moves eastern x y g h o 1 (2 * min (width g) (width h)) (reach_near g h o.one_runs o.other_runs) (some (width g) (width h) (wide g o.one_runs) (wide h o.other_runs)) (reach_far g h) l),
  )
    where
      some : (p q : ℕ) → 0 < p → 0 < q → 0 < 2 * min p q
      some p q i j = omega arith

      wide : (k : Segment) → k.xw < k.xe → 0 < width k
      wide k r = omega arith

-- a test reads a relation on a set
abbrev pub Reads : (ℕ → Type 0) → (ℕ → ℕ → Type 0) → (ℕ → ℕ → Bool) → Type 0
Reads Among Under test = (e f : ℕ) → Among e → Among f → (test e f ≡ true → Under e f) × (Under e f → test e f ≡ true)

pub under_reads : (s : Sheet) → Rule2 s → (eastern : Bool) (v : ℕ)
    → Reads (OfFan s eastern v) (LowerBeside s eastern v) (is_under s.vertices s.edges eastern)
under_reads s rule2 eastern v e f a b =
    let o : OneEnd eastern (x_of s v) (y_of s v) (segment s e) (segment s f) = fan_one_end s rule2 eastern v e f a b in
    (λ t. far_to_near eastern (x_of s v) (y_of s v) (segment s e) (segment s f) o (means (lower_beside eastern (segment s e) (segment s f)) t), λ l. held (lower_beside eastern (segment s e) (segment s f)) (near_to_far eastern (x_of s v) (y_of s v) (segment s e) (segment s f) o l))
