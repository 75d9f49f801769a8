use Rattle.std.proofs.Common.{◌≡◌, not, false, ℕ, Bool, ap, sym, arith, ◌∙◌}
use mathlib.Core.Path.{ap₂}
use borrow.Author.Count.{below_more}
use Rattle.subdivision.specs.declared.Segment.{Segment}
use Rattle.subdivision.specs.Formula.{holds, Means}
use Rattle.subdivision.specs.Sheet.{segment_of}
use Rattle.subdivision.specs.Lines.{conflict}
use Rattle.subdivision.specs.Rules.{edge_clear}
use Rattle.tables.specs.Lent.{drawn}
use Rattle.theory.proofs.Decide.{means, denies, held, fails}
use Rattle.theory.proofs.Lowest.{first_at, first_nowhere}
use Rattle.conflicts.proofs.first_conflict.Goals as goal

-- what the conflict test of two segments says of the segments that they are
said : {g h g' h' : Segment} {met : Bool} → met ≡ holds (conflict g h) → g ≡ g' → h ≡ h' → holds (conflict g' h') ≡ met
said p q r = sym (p ∙ ap₂ (λ (x y : Segment). holds (conflict x y)) q r)

pub loop-f-preserved : goal.loop-f-preserved
loop-f-preserved c =
    let t = c.args.tables in
    let pair : ℕ → Type 0 = λ k. Means (conflict (segment_of t.vertices.now t.edges.now k) (segment_of t.vertices.now t.edges.now c.pairs.e)) in
    let apart = denies (conflict (segment_of t.vertices.now t.edges.now c.loop-f.f) (segment_of t.vertices.now t.edges.now c.pairs.e)) (said c.conflict.ensures c.known_segment-g.ensures c.known_segment-h.ensures ∙ c.if-conflict.false) in
    (c.loop-f.invariant.0, below_more (λ k. pair k → ⊥) c.loop-f.f c.loop-f.invariant.1 apart)

pub pairs-preserved : goal.pairs-preserved
pairs-preserved c =
    let clear = held (edge_clear (drawn c.args.tables) c.pairs.e) (λ f h. c.loop-f.invariant.1 f (omega arith)) in
    (c.loop-f.invariant.0, below_more (λ k. not (holds (edge_clear (drawn c.args.tables) k)) ≡ false) c.pairs.e c.pairs.invariant.1 (ap not clear))

pub returns-after-pairs : goal.returns-after-pairs
returns-after-pairs c =
    c.pairs.invariant.0
    ∙ first_nowhere (λ e. not (holds (edge_clear (drawn c.args.tables) e))) c.args.count (λ k h. c.pairs.invariant.1 k (omega arith))

pub returns-then-conflict : goal.returns-then-conflict
returns-then-conflict c =
    let t = c.args.tables in
    let met = means (conflict (segment_of t.vertices.now t.edges.now c.loop-f.f) (segment_of t.vertices.now t.edges.now c.pairs.e)) (said c.conflict.ensures c.known_segment-g.ensures c.known_segment-h.ensures ∙ c.if-conflict.true) in
    let broken = fails (edge_clear (drawn t) c.pairs.e) (λ m. m c.loop-f.f (omega arith) met) in
    first_at (λ e. not (holds (edge_clear (drawn t) e))) c.args.count c.pairs.e (omega arith) (ap not broken) c.pairs.invariant.1
