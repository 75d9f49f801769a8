-- The loop's invariant: what is left of the line, and the part behind it, whose places are written.
use Rattle.std.proofs.Common.{◌≡◌, ◌++◌, ℕ, List, length}
use Rattle.std.specs.Iterator.Adapters.{rev_source, enumerate_source, enumerate_count}
use Rattle.std.specs.Slice.Iter.{iter_rest}
use Rattle.indexing.proofs.Placing.{placing}
use Rattle.indexing.proofs.places.Given as goal

abbrev pub invariant-loop-p : goal.invariant-loop-p
invariant-loop-p l =
    let left : List ℕ = iter_rest (enumerate_source (rev_source l.p-iterator)) in
    (done : List ℕ) × (l.line ≡ left ++ done) × (l.place ≡ placing (length left) done l.initial.place) × (enumerate_count (rev_source l.p-iterator) ≡ 0)
