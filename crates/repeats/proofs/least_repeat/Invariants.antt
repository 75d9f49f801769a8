-- The loop's invariant: `least` is the least over the pairs of neighbours passed, whose number is by how much the rest is shorter.
use Rattle.std.proofs.Common.{◌≡◌, ◌-◌, ◌≤◌, length, drop}
use Rattle.std.specs.Slice.Iter.{windows_size, windows_rest}
use Rattle.theory.proofs.Repeats.{IsLeastOf}
use Rattle.repeats.proofs.least_repeat.Given as goal

abbrev pub invariant-loop-pair : goal.invariant-loop-pair
invariant-loop-pair l =
    let rest = windows_rest l.pair-iterator in
    let passed = length l.order - length rest in
    record {
      size : windows_size l.pair-iterator ≡ 2;
      part : length rest ≤ length l.order;
      rest : rest ≡ drop passed l.order;
      some_left : passed ≤ length l.order - 1;
      least : IsLeastOf l.vertices l.order passed l.least;
    }
