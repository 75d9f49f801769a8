-- An index that holds what opening writes: what opening leaves is one, and each of its words is the one that opening writes.
use mathlib.Core.Path.{◌≡◌, refl, sym, ap, ◌∙◌}
use mathlib.Core.Bool.{false≢true}
use mathlib.Core.List.{List}
use Prim.Native.Nat.{ℕ, ◌<◌, ◌≤◌}
use native.Mathlib.Omega.{arith}
use lib.ListN.{length, get_or, length-take}
use lib.Seq.{take_at, get_or-take}
use Rattle.std.specs.Prelude.{Ok, Err}
use Rattle.subdivision.specs.Results.{Verdict, Reply, Search, passed, refused, reply_of, examined_of, probes_of}
use Rattle.subdivision.specs.Lists.{put}
use Rattle.subdivision.specs.Layout.{index_need}
use Rattle.subdivision.specs.Sheet.{Sheet, edge_count, zone_count}
use Rattle.subdivision.specs.Refusals.{judged}
use Rattle.subdivision.specs.Faults.{opening_refusals}
use Rattle.subdivision.specs.Accepted.{Accepted}
use Rattle.subdivision.specs.Index.{index_words}
use Rattle.subdivision.specs.Engine.{HoldsIndex}
use Rattle.subdivision.specs.Calls.{Opened, opening}
use Rattle.theory.proofs.Chains.{index_length, accepted_line, accepted_above, accepted_west}
use Rattle.theory.proofs.Faults.{opened_exactly}

module _ (s : Sheet) (a : Accepted s) where
  -- the words that opening writes are as many as an index needs
  pub words_long : length (index_words s) ≡ index_need (zone_count s) (edge_count s)
  words_long = index_length s (accepted_west s a) (accepted_line s a) (accepted_above s a)

  -- what opening writes holds the index, whatever was lent
  pub written_holds : (lent : List ℕ) → HoldsIndex s (put (index_words s) lent)
  written_holds lent = take_at (index_words s) _ (index_need (zone_count s) (edge_count s)) words_long

  pub held_long : (index : List ℕ) → HoldsIndex s index → index_need (zone_count s) (edge_count s) ≤ length index
  held_long index h = omega (arith, sym (length-take (index_need (zone_count s) (edge_count s)) index) ∙ (ap length h ∙ words_long))

-- a word of a held index is the one that opening writes
pub held_word : (s : Sheet) (index : List ℕ) → HoldsIndex s index → (t : ℕ) → t < index_need (zone_count s) (edge_count s) → get_or index t 0 ≡ get_or (index_words s) t 0
held_word s index h t b = sym (get_or-take (index_need (zone_count s) (edge_count s)) index t 0 b) ∙ ap (λ l. get_or l t 0) h

opened : (s : Sheet) (lent : List ℕ) → (opening s lent).verdict ≡ passed → Accepted s × HoldsIndex s (opening s lent).index
unfolding opening
opened s lent = go (judged (opening_refusals s (length lent))) refl
  where
    left : Verdict → Opened
    left v =
        elim v [ Ok u ↦ record { verdict = passed; index = put (index_words s) lent } | Err e ↦ record { verdict = Err e; index = lent } ]

    go : (v : Verdict) → judged (opening_refusals s (length lent)) ≡ v → (left v).verdict ≡ passed → Accepted s × HoldsIndex s (left v).index
    go (Ok u) e p = let a = ((opened_exactly s (length lent)).0 e).0 in (a, written_holds s a lent)
    go (Err r) e p = absurd (false≢true cc)

-- where opening passes a sheet, it is accepted
pub opened_accepted : (s : Sheet) (lent : List ℕ) → (opening s lent).verdict ≡ passed → Accepted s
opened_accepted s lent p = (opened s lent p).0

-- where opening passes a sheet, the words that it leaves hold its index
pub opened_holds : (s : Sheet) (lent : List ℕ) → (opening s lent).verdict ≡ passed → HoldsIndex s (opening s lent).index
opened_holds s lent p = (opened s lent p).1
