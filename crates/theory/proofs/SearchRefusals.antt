-- The refusals of the quick search: each is given exactly when document 01 says so, and leaves the trail as it was and both counts 0.
use mathlib.Core.Path.{◌≡◌, refl, sym, ap, ◌∙◌}
use mathlib.Core.Bool.{Bool, true, false, false≢true}
use mathlib.Core.List.{List}
use mathlib.Core.Logic.{◌⊎◌, inl, inr, ◌↔◌}
use Prim.Native.Nat.{ℕ, ◌*◌}
use lib.IntN.{ℤ}
use lib.ListN.{length}
use Rattle.subdivision.specs.Results.{Verdict, Reply, Search, passed, refused, reply_of, examined_of, probes_of}
use Rattle.subdivision.specs.declared.Answer.{Answer}
use Rattle.subdivision.specs.declared.Answer.TheVariants.{Vertex, Edge}
use Rattle.std.specs.Prelude.{Ok, Err}
use Rattle.subdivision.specs.Formula.{holds}
use Rattle.subdivision.specs.Sheet.{Sheet, shifted, zone_count, west_of, east_of}
use Rattle.subdivision.specs.Refusals.{Refusal, judged}
use Rattle.subdivision.specs.Faults.{GivenBy, AllKept, search_refusals}
use Rattle.subdivision.specs.Damage.{ComesToFault, SearchRefuses}
use Rattle.subdivision.specs.Reading.{is_vertex}
use Rattle.subdivision.specs.Descent.{LookUps, Descent, Turn, answered, damaged, on_edge, turn, start, descent, index_look_ups, index_descent}
use Rattle.subdivision.specs.Calls.{Searched, search_refused, search_answered, search_ended, searching_under, searching}
use Rattle.theory.proofs.Damages.{damaged_exactly, answered_or_damaged}
use Rattle.theory.proofs.Judgement.{passed_keeps, kept_passes}
use Rattle.theory.proofs.Faults.{search_judged_exactly}
use Rattle.theory.proofs.Turns.{Answers, arrival, landing, turn_answered, turns_answered}
use Rattle.theory.proofs.Results.{same_refusal}

-- ---- the quick search by the verdict of its lines

module _ (s : Sheet) (index : List ℕ) (x y : ℤ) (lent : List ℕ) where
  -- the lines that the call checks before it reads the index
  abbrev lines : List Refusal
  lines = search_refusals s (length index) (shifted x) (shifted y) (length lent)

  -- the call as it is defined
  abbrev result : Searched
  result = searching s index x y lent

  -- the descent of the point over the words of the index
  abbrev ended : Turn
  ended = index_descent s index (shifted x) (shifted y)

  -- a line refuses
  abbrev pub ByLine : Type 0
  ByLine = (number : ℕ) × (item : ℕ) × ((judged lines ≡ refused number item) × (result ≡ search_refused number item lent))

  -- no line does, and the descent answers
  abbrev pub ByAnswer : Type 0
  ByAnswer = AllKept lines × ((a : Answer) × (d : Descent) × ((ended ≡ answered a d) × (result ≡ search_answered a d lent)))

  -- no line does, and the descent is damaged
  abbrev pub ByDamage : Type 0
  ByDamage = AllKept lines × ((ended ≡ damaged) × (result ≡ search_refused 22 0 lent))

  refuses : (number item : ℕ) → judged lines ≡ refused number item → result ≡ search_refused number item lent
  unfolding searching
  refuses number item e = rw (e, searching_under)

  ends : (t : Turn) → AllKept lines → ended ≡ t → result ≡ search_ended t lent
  unfolding searching index_descent
  ends t k e = rw (kept_passes lines k, searching_under, e)

  -- a search comes by one of the three
  pub search_comes : ByLine ⊎ (ByAnswer ⊎ ByDamage)
  search_comes = go (judged lines) refl (answered_or_damaged s index (shifted x) (shifted y))
    where
      go : (v : Verdict) → judged lines ≡ v → ((a : Answer) × (d : Descent) × (ended ≡ answered a d)) ⊎ (ended ≡ damaged) → ByLine ⊎ (ByAnswer ⊎ ByDamage)
      go (Err r) e t = inl (r.number, r.item, (e, refuses r.number r.item e))
      go (Ok u) e (inl (a, d, t)) = let k = passed_keeps lines e in inr (inl (k, (a, d, (t, ends (answered a d) k t))))
      go (Ok u) e (inr t) = let k = passed_keeps lines e in inr (inr (k, (t, ends damaged k t)))

  -- the answer of a result that is known
  answer_of : (r : Searched) → result ≡ r → reply_of result.found ≡ reply_of r.found
  answer_of r e = ap (λ (q : Searched). reply_of q.found) e

  -- each refusal of the quick search is given exactly when its own line says so, 22 exactly when no line does and it comes to a fault
  pub search_refused_exactly : (number item : ℕ)
      → (reply_of (searching s index x y lent).found ≡ refused number item) ↔ SearchRefuses s index (shifted x) (shifted y) (length lent) number item
  search_refused_exactly number item = (λ p. there p search_comes, back)
    where
      given : (judged lines ≡ refused number item) ↔ GivenBy lines number item
      given = search_judged_exactly s (length index) (shifted x) (shifted y) (length lent) number item

      exactly : AllKept lines → (ended ≡ damaged) ↔ ComesToFault s index (shifted x) (shifted y)
      exactly k = damaged_exactly s index (shifted x) (shifted y) k.0.1.1.0

      there : reply_of result.found ≡ refused number item → ByLine ⊎ (ByAnswer ⊎ ByDamage)
          → SearchRefuses s index (shifted x) (shifted y) (length lent) number item
      there p (inl (n, i, (e, r))) =
          let same : refused n i ≡ refused number item = sym (answer_of (search_refused n i lent) r) ∙ p in
          let one = same_refusal n i number item same in inl (given.0 (e ∙ (λ j. refused (one.0 j) (one.1 j))))
      there p (inr (inl (k, (a, d, (t, r))))) =
          let never : Ok a ≡ refused number item = sym (answer_of (search_answered a d lent) r) ∙ p in absurd (false≢true cc)
      there p (inr (inr (k, (t, r)))) =
          let same : refused 22 0 ≡ refused number item = sym (answer_of (search_refused 22 0 lent) r) ∙ p in
          let one = same_refusal 22 0 number item same in
          inr (k, ((exactly k).0 t, (sym one.0, sym one.1)))

      back : SearchRefuses s index (shifted x) (shifted y) (length lent) number item → reply_of result.found ≡ refused number item
      back (inl g) = answer_of (search_refused number item lent) (refuses number item (given.1 g))
      back (inr (k, (f, (n, i)))) = rw (n, i) (answer_of (search_refused 22 0 lent) (ends damaged k ((exactly k).1 f)))

  -- a refused search leaves the trail as it was, and both counts 0
  pub refused_leaves : (number item : ℕ) → reply_of (searching s index x y lent).found ≡ refused number item
      → ((searching s index x y lent).trail ≡ lent) × ((examined_of (searching s index x y lent).found ≡ 0) × (probes_of (searching s index x y lent).found ≡ 0))
  refused_leaves number item p = go search_comes
    where
      left : (n i : ℕ) → result ≡ search_refused n i lent → (result.trail ≡ lent) × ((examined_of result.found ≡ 0) × (probes_of result.found ≡ 0))
      left n i r = (ap (λ q. q.trail) r, (ap (λ (q : Searched). examined_of q.found) r, ap (λ (q : Searched). probes_of q.found) r))

      go : ByLine ⊎ (ByAnswer ⊎ ByDamage) → (result.trail ≡ lent) × ((examined_of result.found ≡ 0) × (probes_of result.found ≡ 0))
      go (inl (n, i, (e, r))) = left n i r
      go (inr (inl (k, (a, d, (t, r))))) =
          let never : Ok a ≡ refused number item = sym (answer_of (search_answered a d lent) r) ∙ p in absurd (false≢true cc)
      go (inr (inr (k, (t, r)))) = left 22 0 r
