-- The third demand, of the quick search as it is defined; and the bounds of its counts, which hold for all inputs.
use mathlib.Core.Path.{◌≡◌, refl, sym, ◌∙◌, subst}
use mathlib.Core.List.{List}
use mathlib.Core.Logic.{◌⊎◌, inl, inr, ⊎_elim}
use Prim.Native.Nat.{ℕ, ◌-◌, ◌≤◌, zero-le}
use lib.IntN.{ℤ}
use lib.ListN.{length}
use Rattle.std.specs.Prelude.{Ok, Err}
use Rattle.subdivision.specs.Results.{Verdict, Reply, Search, passed, refused, reply_of, examined_of, probes_of}
use Rattle.subdivision.specs.declared.Answer.{Answer}
use Rattle.subdivision.specs.Dyadic.{bits}
use Rattle.subdivision.specs.Sheet.{Sheet, shifted, zone_count}
use Rattle.subdivision.specs.Faults.{table_refusals, search_refusals}
use Rattle.subdivision.specs.Accepted.{Accepted}
use Rattle.subdivision.specs.Reading.{on_sheet, plain_reading}
use Rattle.subdivision.specs.Placed.{OnSheet}
use Rattle.subdivision.specs.Descent.{Descent, answered, descent, published_descent, index_descent, table_look_ups, index_look_ups}
use Rattle.subdivision.specs.Engine.{HoldsIndex, CountsBounded, QuickAnswers, ThirdDemand}
use Rattle.subdivision.specs.Calls.{Searched, search_refused, search_answered, reading_under, reading, searching_under, searching}
use Rattle.std.proofs.lemmas.Bool.{false≢true}
use Rattle.theory.proofs.Decide.{decided, fails}
use Rattle.theory.proofs.Descents.{descent_counts}
use Rattle.theory.proofs.FaithfulLookUps.{tables_faithful, index_faithful}
use Rattle.theory.proofs.Faults.{says_given}
use Rattle.theory.proofs.HeldIndex.{held_long}
use Rattle.theory.proofs.Judgement.{accepted_decides, kept_passes, passed_keeps}
use Rattle.theory.proofs.OneThing.{accepted_reads}
use Rattle.theory.proofs.SameDescent.{SameEnd, descent_same}
use Rattle.theory.proofs.SearchRefusals.{ByLine, ByAnswer, ByDamage, search_comes}

module _ (s : Sheet) (index : List ℕ) (x y : ℤ) (lent : List ℕ) where
  -- a search examines at most bits(n-1) edges, with at most bits(n-1) x bits(m) probes, whatever is lent
  pub search_bounded : CountsBounded s (searching s index x y lent).found
  search_bounded = go (search_comes s index x y lent)
    where
      bounded : (r : Searched) → searching s index x y lent ≡ r → CountsBounded s r.found → CountsBounded s (searching s index x y lent).found
      bounded r e = subst (λ q. CountsBounded s q.found) (sym e)

      go : ByLine s index x y lent ⊎ (ByAnswer s index x y lent ⊎ ByDamage s index x y lent) → CountsBounded s (searching s index x y lent).found
      go (inl (n, i, (e, r))) = bounded (search_refused n i lent) r (zero-le, zero-le)
      go (inr (inl (k, (a, d, (t, r))))) = bounded (search_answered a d lent) r (descent_counts s index (shifted x) (shifted y) k.0.1.1.0 a d t)
      go (inr (inr (k, (t, r)))) = bounded (search_refused 22 0 lent) r (zero-le, zero-le)

  module _ (a : Accepted s) (h : HoldsIndex s index) (o : OnSheet s (shifted x) (shifted y)) (room : bits (zone_count s - 1) ≤ length lent) where
    -- the plain reading
    abbrev plain : Answer
    plain = plain_reading s (shifted x) (shifted y)

    ended : SameEnd s a (shifted x) (shifted y) o (λ w. descent s w (shifted x) (shifted y))
    ended = descent_same s a (shifted x) (shifted y) o

    -- the state in which the descent ends
    abbrev last : Descent
    last = ended.0

    published : published_descent s (shifted x) (shifted y) ≡ answered plain last
    unfolding published_descent
    published = ended.2 (table_look_ups s) (tables_faithful s)

    over_index : index_descent s index (shifted x) (shifted y) ≡ answered plain last
    unfolding index_descent
    over_index = ended.2 (index_look_ups s index) (index_faithful s index h)

    searched : searching s index x y lent ≡ search_answered plain last lent
    unfolding searching index_descent
    searched =
        rw (kept_passes (search_refusals s (length index) (shifted x) (shifted y) (length lent)) (a.counts, (a.margins, (held_long s a index h, (o, (room, tt))))), searching_under, over_index)

    answers : QuickAnswers s (shifted x) (shifted y) lent (search_answered plain last lent).found (search_answered plain last lent).trail
    answers =
        record {
          engine =
              record {
                plain = refl;
                unrefused = λ number item e. false≢true cc;
                last = last;
                published = published;
                counted = refl;
                listed = refl;
                none_twice = ended.1;
                bounded = counts.0;
              };
          probed = refl;
          bounded = counts;
        }
      where
        counts : CountsBounded s (search_answered plain last lent).found
        counts = descent_counts s index (shifted x) (shifted y) a.counts.1.1.0 plain last over_index

  pub third_demand : ThirdDemand s index (shifted x) (shifted y) lent (searching s index x y lent).found (searching s index x y lent).trail
  third_demand a h o room =
      subst (λ r. QuickAnswers s (shifted x) (shifted y) lent r.found r.trail) (sym (searched a h o room)) (answers a h o room)

  -- under the demand's premises the quick search answers as the call of the plain reading does
  pub searched_is_read : Accepted s → HoldsIndex s index → OnSheet s (shifted x) (shifted y) → bits (zone_count s - 1) ≤ length lent → reply_of (searching s index x y lent).found ≡ reading s x y
  searched_is_read a h o room = (third_demand a h o room).engine.plain ∙ sym (accepted_reads s a x y o)

  -- off the sheet the search is refused 20
  search_off : Accepted s → HoldsIndex s index → (OnSheet s (shifted x) (shifted y) → ⊥) → reply_of (searching s index x y lent).found ≡ refused 20 0
  unfolding searching
  search_off a h off =
      let kept = passed_keeps (table_refusals s) ((accepted_decides s).1 a) in
      let refused = says_given (search_refusals s (length index) (shifted x) (shifted y) (length lent)) 20 0 (inr (kept.0, inr (kept.1.0, inr (held_long s a index h, inl (refl, (off, inl (refl, refl))))))) in
      rw (refused, searching_under)

  -- and so is the plain reading
  read_off : Accepted s → (OnSheet s (shifted x) (shifted y) → ⊥) → reading s x y ≡ refused 20 0
  unfolding reading
  read_off a off = rw ((accepted_decides s).1 a, reading_under) (rw (fails (on_sheet s (shifted x) (shifted y)) off))

  -- an opened sheet searched at any point, with room for a trail, gives the plain reading's answer
  pub searched_is_read_everywhere : Accepted s → HoldsIndex s index → bits (zone_count s - 1) ≤ length lent → reply_of (searching s index x y lent).found ≡ reading s x y
  searched_is_read_everywhere a held_index room = ⊎_elim (λ on. searched_is_read a held_index on room) (λ off. search_off a held_index off ∙ sym (read_off a off)) (decided (on_sheet s (shifted x) (shifted y)))
