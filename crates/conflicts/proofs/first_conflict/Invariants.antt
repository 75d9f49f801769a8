-- The outer loop's invariant: no edge below e is in conflict with a lower-numbered one. The inner one's: e is in conflict with no edge below f.
use Rattle.std.proofs.Common.{◌≡◌, not, ℕ, ◌<◌, false}
use Rattle.std.specs.Prelude.{None}
use Rattle.subdivision.specs.Formula.{holds, Means}
use Rattle.subdivision.specs.Sheet.{segment_of}
use Rattle.subdivision.specs.Lines.{conflict}
use Rattle.subdivision.specs.Rules.{edge_clear}
use Rattle.tables.specs.Lent.{drawn}
use Rattle.conflicts.proofs.first_conflict.Given as goal

abbrev pub invariant-loop-f : goal.invariant-loop-f
invariant-loop-f l =
    (l.lowest ≡ None) × ((k : ℕ) → k < l.f → Means (conflict (segment_of l.fn.tables.vertices.now l.fn.tables.edges.now k) (segment_of l.fn.tables.vertices.now l.fn.tables.edges.now l.e)) → ⊥)

abbrev pub invariant-pairs : goal.invariant-pairs
invariant-pairs l = (l.lowest ≡ None) × ((k : ℕ) → k < l.e → not (holds (edge_clear (drawn l.fn.tables) k)) ≡ false)
