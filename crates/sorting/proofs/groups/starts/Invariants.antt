-- The loop's invariant: each place below k holds its group's start, and the place reached is not past the start of group k.
use Rattle.std.proofs.Common.{◌≡◌, ℕ, ◌<◌, ◌≤◌, length, get_or}
use Rattle.theory.proofs.Groups.{group_start}
use Rattle.sorting.proofs.groups.starts.Given as goal

abbrev pub invariant-loop-k : goal.invariant-loop-k
invariant-loop-k l = record {
  held : (j : ℕ) → j < l.k → get_or l.starts j 0 ≡ group_start (λ e. get_or l.keys e 0) l.order j;
  reached : l.at ≤ group_start (λ e. get_or l.keys e 0) l.order l.k;
  within : l.at ≤ length l.order;
}
