-- What the quick search promises, from its refusals in turn and from what its descent finds and lists.
use mathlib.Core.Path.{◌≡◌, refl, sym, ap, ◌∙◌, subst}
use mathlib.Core.Bool.{true, false}
use mathlib.Core.List.{List, [], ◌∷◌}
use mathlib.Core.Logic.{◌↔◌}
use Prim.Native.Nat.{ℕ, ◌-◌, ◌<◌, ◌≤◌}
use native.Mathlib.Omega.{arith}
use lib.IntN.{ℤ}
use lib.ListN.{length}
use Rattle.std.specs.Prelude.{Err}
use Rattle.subdivision.specs.declared.Refused.{Refused}
use Rattle.subdivision.specs.Results.{Verdict, Search, passed, reply_of, examined_of, probes_of}
use Rattle.subdivision.specs.Results as results
use Rattle.subdivision.specs.Formula.{Formula, holds}
use Rattle.subdivision.specs.Dyadic.{bits}
use Rattle.subdivision.specs.Layout.{index_need}
use Rattle.subdivision.specs.Lists.{put}
use Rattle.subdivision.specs.Sheet.{Sheet, shifted, edge_count, zone_count}
use Rattle.subdivision.specs.Refusals.{Refusal, names, unnamed, judged, limit_refusals, room_refusal, trail_room}
use Rattle.subdivision.specs.Faults.{search_refusals}
use Rattle.subdivision.specs.Damage.{SearchRefuses}
use Rattle.subdivision.specs.Reading.{on_sheet}
use Rattle.subdivision.specs.Descent.{Turn, onward, answered, damaged, index_descent}
use Rattle.subdivision.specs.Engine.{CountsBounded, ThirdDemand}
use Rattle.subdivision.specs.Calls.{Searched, search_refused, search_ended, searching_under, searching}
use Rattle.subdivision.specs.Signed.{SearchedAsSigned}
use Rattle.theory.proofs.Decide.{held, fails}
use Rattle.theory.proofs.Judgement.{refused_first, passed_first, none_named}
use Rattle.theory.proofs.SearchRefusals.{search_refused_exactly, refused_leaves}
use Rattle.theory.proofs.ThirdDemand.{search_bounded, third_demand}
use Rattle.theory.proofs.Signed.{searched_as_signed}
use Rattle.descent.specs.Steps.{found_by, trail_of}

module _ (s : Sheet) (index : List ℕ) (x y : ℤ) (lent : List ℕ) where
  -- the promises of a result and the trail left, as the contract has them
  abbrev pub Promised : Search → List ℕ → Type 0
  Promised r left = record {
    found : r ≡ (searching s index x y lent).found;
    listed : left ≡ (searching s index x y lent).trail;
    refused : (number item : ℕ) → (reply_of r ≡ results.refused number item) ↔ SearchRefuses s index (shifted x) (shifted y) (length lent) number item;
    untouched : (number item : ℕ) → reply_of r ≡ results.refused number item → (left ≡ lent) × ((examined_of r ≡ 0) × (probes_of r ≡ 0));
    bounded : CountsBounded s r;
    third_demand : ThirdDemand s index (shifted x) (shifted y) lent r left;
    signed : SearchedAsSigned s index x y lent r left;
  }

  -- what the definition gives keeps every promise
  promised : (r : Searched) → r ≡ searching s index x y lent → Promised r.found r.trail
  promised r e =
      subst (λ (q : Searched). Promised q.found q.trail) (sym e)
      (record { found = refl; listed = refl; refused = search_refused_exactly s index x y lent; untouched = refused_leaves s index x y lent; bounded = search_bounded s index x y lent; third_demand = third_demand s index x y lent; signed = searched_as_signed s index x y lent })

  -- a refusal, and the trail as it was
  abbrev RefusalPromised : Refused → Type 0
  RefusalPromised e = Promised (Err e) lent

  -- the lines that the call checks after the limits
  abbrev others : List Refusal
  others =
      room_refusal s (length index) ∷ unnamed 20 (on_sheet s (shifted x) (shifted y)) ∷ unnamed 21 (trail_room s (length lent)) ∷ []

  -- a refusal by a line
  by_line : (e : Refused) → judged (search_refusals s (length index) (shifted x) (shifted y) (length lent)) ≡ Err e → RefusalPromised e
  unfolding searching
  by_line e same = promised (search_refused e.number e.item lent) (rw (same, searching_under))

  -- a refusal by the limits
  pub refused_by_limits : (e : Refused) → judged (limit_refusals s) ≡ Err e → RefusalPromised e
  refused_by_limits e same = by_line e (refused_first (limit_refusals s) others e.number e.item same)

  module _ (limits : judged (limit_refusals s) ≡ passed) where
    -- a refusal by one of the other lines
    by_others : (number : ℕ) → judged others ≡ results.refused number 0 → RefusalPromised (record { number = number; item = 0 })
    by_others number e = by_line _ (passed_first (limit_refusals s) others limits ∙ e)

    -- a line that names nothing refuses
    names_nothing : (number : ℕ) (kept : Formula) → ◌≡◌ {A = Verdict} (results.refused number (names (unnamed number kept))) (results.refused number 0)
    names_nothing number kept = ap (results.refused number) (sym (none_named number kept))

    -- refusal 3 of an index without room
    pub no_room : length index < index_need (zone_count s) (edge_count s) → RefusalPromised (record { number = 3; item = 0 })
    no_room h = by_others 3 (rw (fails (room_refusal s (length index)).kept (λ k. omega arith), judged) (names_nothing 3 (room_refusal s (length index)).kept))

    module _ (room : index_need (zone_count s) (edge_count s) ≤ length index) where
      -- refusal 20 of a point that is not on the sheet
      pub off_sheet_lem : holds (on_sheet s (shifted x) (shifted y)) ≡ false → RefusalPromised (record { number = 20; item = 0 })
      off_sheet_lem e = by_others 20 (rw (held (room_refusal s (length index)).kept room, judged, e) (names_nothing 20 (on_sheet s (shifted x) (shifted y))))

      module _ (here : holds (on_sheet s (shifted x) (shifted y)) ≡ true) where
        -- refusal 21 of a trail without room
        pub no_trail : length lent < bits (zone_count s - 1) → RefusalPromised (record { number = 21; item = 0 })
        no_trail h =
            by_others 21 (rw (held (room_refusal s (length index)).kept room, judged, here, fails (trail_room s (length lent)) (λ k. omega arith)) (names_nothing 21 (trail_room s (length lent))))

        -- what the descent finds, and what it lists written over the front of the trail
        pub descended : bits (zone_count s - 1) ≤ length lent → (r : Search) (left : List ℕ) → r ≡ found_by (index_descent s index (shifted x) (shifted y))
            → left ≡ put (trail_of (index_descent s index (shifted x) (shifted y))) lent → Promised r left
        unfolding searching index_descent
        descended h r left f l =
            promised (record { found = r; trail = left })
            ((λ i. record { found = f i; trail = l i }) ∙ ended (index_descent s index (shifted x) (shifted y)) ∙ rw (passes, searching_under))
          where
            passes : judged (search_refusals s (length index) (shifted x) (shifted y) (length lent)) ≡ passed
            passes =
                passed_first (limit_refusals s) others limits
                ∙ rw (held (room_refusal s (length index)).kept room, judged, here, held (trail_room s (length lent)) h)

            ended : (t : Turn) → ◌≡◌ {A = Searched} (record { found = found_by t; trail = put (trail_of t) lent }) (search_ended t lent)
            ended (onward d) = refl
            ended (answered a d) = refl
            ended damaged = refl
