-- From a place not past its start on, a group starts after the smaller keys.
use Rattle.std.proofs.Common.{◌≡◌, ℕ, ◌+◌, ◌*◌, ◌-◌, ◌<◌, ◌≤◌, true, false, ltb, List, length, get_or, take, drop, arith, add-one, lt-ltb, le-ltb, get_or-drop, length-drop, leb-true}
use Rattle.std.specs.Prelude.{take_while}
use Rattle.std.proofs.lemmas.Grind.{common_steps}
use Rattle.std.proofs.lemmas.List.Folds.{length-prefix_len}
use Rattle.std.proofs.lemmas.List.Sums.{prefix_len_is}
use Rattle.theory.proofs.Groups.{group_start, group_start_le, before_group, group_start_rises}
use Rattle.theory.proofs.Lists.{is_tab}
use Rattle.theory.proofs.Lowest.{lowest_passes}
use Rattle.theory.proofs.Merge.{to_the_end}
use Rattle.sorting.proofs.groups.starts.Goals as goal

-- at its start a group has a key that reaches it
at_start : (key : ℕ → ℕ) (l : List ℕ) (k : ℕ) → group_start key l k < length l → k * 4294967296 ≤ key (get_or l (group_start key l k) 0)
unfolding group_start
at_start key l k h = leb-true _ _ (lowest_passes _ (length l) h)

-- the smaller keys from a place on, and the place, make the start
start_ahead : (key : ℕ → ℕ) (l : List ℕ) (k at : ℕ) → at ≤ group_start key l k
    → at + length (take_while (λ e. ltb (key e) (k * 4294967296)) (take (length l - at) (drop at l))) ≡ group_start key l k
start_ahead key l k at h =
    let n = group_start key l k - at in
    rw (to_the_end, length-prefix_len, prefix_len_is (λ e. ltb (key e) (k * 4294967296)) (drop at l) n 0 (omega (arith, length-drop at l, group_start_le key l k)) before here)
    (omega arith)
  where
    before : (j : ℕ) → j < group_start key l k - at → ltb (key (get_or (drop at l) j 0)) (k * 4294967296) ≡ true
    before j b = rw get_or-drop (lt-ltb _ _ (before_group key l k (at + j) (omega arith)))

    here : group_start key l k - at < length (drop at l) → ltb (key (get_or (drop at l) (group_start key l k - at) 0)) (k * 4294967296) ≡ false
    here b =
        let e : at + (group_start key l k - at) ≡ group_start key l k = omega arith in
        rw (get_or-drop at l (group_start key l k - at) 0, e) (le-ltb _ _ (at_start key l k (omega (arith, length-drop at l))))

pub overflow_cast-start : goal.overflow_cast-start
overflow_cast-start c =
    let key : ℕ → ℕ = λ e. get_or c.args.keys.now e 0 in
    omega (arith, start_ahead key c.args.order.now c.loop-k.k c.loop-k.at c.loop-k.invariant.reached, group_start_le key c.args.order.now c.loop-k.k)

pub loop-k-preserved : goal.loop-k-preserved
loop-k-preserved c =
    let key : ℕ → ℕ = λ e. get_or c.args.keys.now e 0 in
    let l = c.args.order.now in
    let k = c.loop-k.k in
    let next : c.loop-k.at + c.below-at.result ≡ group_start key l k = omega (arith, start_ahead key l k c.loop-k.at c.loop-k.invariant.reached) in record {
      held = λ j b. grind (arith, common_steps, c.loop-k.invariant.held j);
      reached = rw (next, add-one k) (group_start_rises key l k);
      within = omega (arith, group_start_le key l k);
    }

pub returns : goal.returns
returns c = is_tab _ 0 c.loop-k.starts _ (omega arith) (λ j h. c.loop-k.invariant.held j (omega arith))
