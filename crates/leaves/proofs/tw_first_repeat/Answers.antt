-- It looks where the limit allows it.
use Rattle.std.proofs.Common.{rules, ◌≡◌, refl, sym, ℕ, Bool, Option, Some, None}
use Rattle.std.specs.Prelude.{unwrap_or}
use Rattle.subdivision.specs.Lowest.{lowest, first}
use Rattle.theory.proofs.Lowest.{first_some, first_none}
use Rattle.leaves.specs.Repeated.{repeat_among}
use Rattle.leaves.proofs.tw_first_repeat.Goals as goal

-- the first that passes, or the count where none does, is the lowest
or_count : (test : ℕ → Bool) (count : ℕ) → unwrap_or (first test count) count ≡ lowest test count
or_count test count = go (first test count) refl
  where
    go : (r : Option ℕ) → first test count ≡ r → unwrap_or r count ≡ lowest test count
    go None e = sym (first_none test count e)
    go (Some i) e = sym (first_some test count i e).0

pub returns : goal.returns
unfolding repeat_among
returns c = search (rules, or_count)
