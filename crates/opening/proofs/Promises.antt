-- What opening promises, from the judgement of its refusals and the words it leaves.
use mathlib.Core.Path.{◌≡◌, refl, sym, ap, ◌∙◌, subst}
use mathlib.Core.Bool.{false≢true}
use mathlib.Core.List.{List, ◌∷◌}
use mathlib.Core.Logic.{◌↔◌}
use Prim.Native.Nat.{ℕ, ◌<◌, ◌≤◌}
use native.Mathlib.Omega.{arith}
use lib.ListN.{length}
use Rattle.std.specs.Prelude.{Err}
use Rattle.subdivision.specs.declared.Refused.{Refused}
use Rattle.subdivision.specs.Results.{Verdict, passed, refused}
use Rattle.subdivision.specs.Lists.{put}
use Rattle.subdivision.specs.Layout.{index_need}
use Rattle.subdivision.specs.Sheet.{Sheet, edge_count, zone_count}
use Rattle.subdivision.specs.Refusals.{judged, limit_refusals, room_refusal, rule_refusals}
use Rattle.subdivision.specs.Faults.{GivenBy, LowestOnCircle, opening_refusals, table_refusals}
use Rattle.subdivision.specs.Accepted.{Accepted}
use Rattle.subdivision.specs.Earlier.{earlier_opening_refusals, GivenAsBefore}
use Rattle.subdivision.specs.Index.{index_words}
use Rattle.subdivision.specs.Engine.{HoldsIndex}
use Rattle.subdivision.specs.Calls.{opening_under, opening}
use Rattle.subdivision.specs.Signed.{OpenedAsSigned}
use Rattle.theory.proofs.Decide.{held, fails}
use Rattle.theory.proofs.Judgement.{refused_first, passed_first, none_named}
use Rattle.theory.proofs.CircleZones.{opening_circle}
use Rattle.theory.proofs.Earlier.{opening_as_before, given_as_before}
use Rattle.theory.proofs.Faults.{opened_exactly, refused_exactly}
use Rattle.theory.proofs.HeldIndex.{words_long, written_holds}
use Rattle.theory.proofs.Signed.{opened_as_signed}

module _ (s : Sheet) (index : List ℕ) where
  -- the promises of a verdict and the words left
  pub record Promised (v : Verdict) (left : List ℕ) : Type 0 where
    pub verdict : v ≡ (opening s index).verdict
    pub words : left ≡ (opening s index).index
    pub opened : (v ≡ passed) ↔ (Accepted s × (index_need (zone_count s) (edge_count s) ≤ length index))
    pub given : (number item : ℕ) → (v ≡ refused number item) ↔ GivenBy (opening_refusals s (length index)) number item
    pub written : v ≡ passed → (left ≡ put (index_words s) index) × (length (index_words s) ≡ index_need (zone_count s) (edge_count s))
    pub untouched : (number item : ℕ) → v ≡ refused number item → left ≡ index
    pub indexed : v ≡ passed → HoldsIndex s left
    pub circle : (item : ℕ) → v ≡ refused 13 item → LowestOnCircle s item
    pub as_before : GivenAsBefore (earlier_opening_refusals s (length index)) (λ number item. v ≡ refused number item)
    pub signed : OpenedAsSigned s index v left

  -- a verdict, as the rules' statements
  says : (v : Verdict) → judged (opening_refusals s (length index)) ≡ v
      → ((v ≡ passed) ↔ (Accepted s × (index_need (zone_count s) (edge_count s) ≤ length index)))
      × ((number item : ℕ) → (v ≡ refused number item) ↔ GivenBy (opening_refusals s (length index)) number item)
  says v e =
      subst (λ (w : Verdict). ((w ≡ passed) ↔ (Accepted s × (index_need (zone_count s) (edge_count s) ≤ length index))) × ((number item : ℕ) → (w ≡ refused number item) ↔ GivenBy (opening_refusals s (length index)) number item)) e
      (opened_exactly s (length index), refused_exactly s (length index))

  -- its 13 names the lowest zone on a circle, its refusals are given as before, and on a sheet signed for earlier it is what it was
  told : (v : Verdict) (left : List ℕ) → v ≡ (opening s index).verdict → left ≡ (opening s index).index
      → ((number item : ℕ) → (v ≡ refused number item) ↔ GivenBy (opening_refusals s (length index)) number item)
      → ((item : ℕ) → v ≡ refused 13 item → LowestOnCircle s item)
      × (GivenAsBefore (earlier_opening_refusals s (length index)) (λ number item. v ≡ refused number item)
      × OpenedAsSigned s index v left)
  told v left said words exactly =
      (λ item g. opening_circle s (length index) item ((exactly 13 item).0 g), (given_as_before (opening_refusals s (length index)) (earlier_opening_refusals s (length index)) (λ number item. v ≡ refused number item) exactly (opening_as_before s (length index)), λ a. (said ∙ (opened_as_signed s index a).0, words ∙ (opened_as_signed s index a).1)))

  -- a refusal leaves the words as they were
  pub refusal_promised : (e : Refused) (v : Verdict) → judged (opening_refusals s (length index)) ≡ Err e → v ≡ Err e → Promised v index
  unfolding opening
  refusal_promised e v j p =
      record {
        verdict = said;
        words = words;
        opened = (says v (j ∙ sym p)).0;
        given = (says v (j ∙ sym p)).1;
        written = λ q. absurd (unlike q);
        untouched = λ n i q. refl;
        indexed = λ q. absurd (unlike q);
        circle = rest.0;
        as_before = rest.1.0;
        signed = rest.1.1;
      }
    where
      said : v ≡ (opening s index).verdict
      said = p ∙ rw (j, opening_under)

      words : index ≡ (opening s index).index
      words = rw (j, opening_under)

      unlike : v ≡ passed → ⊥
      unlike q = let never : Err e ≡ passed = sym p ∙ q in false≢true cc

      rest : ((item : ℕ) → v ≡ refused 13 item → LowestOnCircle s item)
          × (GivenAsBefore (earlier_opening_refusals s (length index)) (λ number item. v ≡ refused number item)
          × OpenedAsSigned s index v index)
      rest = told v index said words (says v (j ∙ sym p)).1

  -- an opened sheet has its index written over the front
  pub opened_promised : (v : Verdict) (left : List ℕ) → judged (opening_refusals s (length index)) ≡ passed → left ≡ put (index_words s) index → v ≡ passed → Promised v left
  unfolding opening
  opened_promised v left j w p =
      record {
        verdict = said;
        words = words;
        opened = exactly.0;
        given = exactly.1;
        written = λ q. (w, words_long s a);
        untouched = λ n i q. absurd (unlike n i q);
        indexed = λ q. subst (HoldsIndex s) (sym w) (written_holds s a index);
        circle = rest.0;
        as_before = rest.1.0;
        signed = rest.1.1;
      }
    where
      said : v ≡ (opening s index).verdict
      said = p ∙ rw (j, opening_under)

      words : left ≡ (opening s index).index
      words = w ∙ rw (j, opening_under)

      exactly : ((v ≡ passed) ↔ (Accepted s × (index_need (zone_count s) (edge_count s) ≤ length index)))
          × ((n i : ℕ) → (v ≡ refused n i) ↔ GivenBy (opening_refusals s (length index)) n i)
      exactly = says v (j ∙ sym p)

      a : Accepted s
      a = (exactly.0.0 p).0

      unlike : (n i : ℕ) → v ≡ refused n i → ⊥
      unlike n i q = let never : passed ≡ refused n i = sym p ∙ q in false≢true cc

      rest : ((item : ℕ) → v ≡ refused 13 item → LowestOnCircle s item)
          × (GivenAsBefore (earlier_opening_refusals s (length index)) (λ number item. v ≡ refused number item)
          × OpenedAsSigned s index v left)
      rest = told v left said words exactly.1

  -- a refusal by the limits is given
  pub refused_by_limits : (number item : ℕ) → judged (limit_refusals s) ≡ refused number item → judged (opening_refusals s (length index)) ≡ refused number item
  refused_by_limits = refused_first (limit_refusals s) (room_refusal s (length index) ∷ rule_refusals s)

  module _ (limits : judged (limit_refusals s) ≡ passed) where
    -- an index without room is refused 3
    pub no_room : length index < index_need (zone_count s) (edge_count s) → judged (opening_refusals s (length index)) ≡ refused 3 0
    no_room h =
        passed_first (limit_refusals s) (room_refusal s (length index) ∷ rule_refusals s) limits
        ∙ rw (fails (room_refusal s (length index)).kept (λ k. omega arith), judged) (ap (refused 3) (sym (none_named 3 (room_refusal s (length index)).kept)))

    -- with room the rules decide
    pub with_room : index_need (zone_count s) (edge_count s) ≤ length index → judged (opening_refusals s (length index)) ≡ judged (table_refusals s)
    with_room h =
        passed_first (limit_refusals s) (room_refusal s (length index) ∷ rule_refusals s) limits
        ∙ rw (held (room_refusal s (length index)).kept h, judged) (sym (passed_first (limit_refusals s) (rule_refusals s) limits))
