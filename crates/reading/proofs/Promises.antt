-- What the plain reading promises: its scans find what the definitions ask for, and its refusals are those of the table.
use mathlib.Core.Path.{◌≡◌, refl, sym, ap, ◌∙◌, subst}
use mathlib.Core.Bool.{Bool, true, false, false≢true}
use mathlib.Core.List.{List, [], ◌∷◌}
use mathlib.Core.Logic.{◌↔◌}
use Prim.Native.Nat.{ℕ}
use native.Mathlib.Omega.{arith}
use lib.Dec.{ltb}
use lib.IntN.{ℤ}
use lib.ListN.{length, get_or, drop, get_or-append}
use Rattle.std.specs.Prelude.{Ok, Err}
use Rattle.subdivision.specs.declared.Answer.{Answer}
use Rattle.subdivision.specs.declared.Refused.{Refused}
use Rattle.subdivision.specs.Results.{Verdict, Reply, passed, refused}
use Rattle.subdivision.specs.Formula.{Formula, holds}
use Rattle.subdivision.specs.Lowest.{lowest}
use Rattle.subdivision.specs.Sheet.{Sheet, shifted, east_margin, vertex_count, edge_count, above_of}
use Rattle.subdivision.specs.Neighbours.{is_highest}
use Rattle.subdivision.specs.ZoneLine.{zone_line}
use Rattle.subdivision.specs.Refusals.{names, unnamed, judged}
use Rattle.subdivision.specs.Faults.{GivenBy, LowestOnCircle, table_refusals, reading_refusals}
use Rattle.subdivision.specs.Accepted.{Accepted}
use Rattle.subdivision.specs.Reading.{on_sheet, first_zone, reading_line, beneath, zone_beneath, plain_reading}
use Rattle.subdivision.specs.Earlier.{earlier_reading_refusals, GivenAsBefore}
use Rattle.subdivision.specs.Placed.{OnSheet, OffVertices, OffEdges, OneThingOnly, ReadingsAgree}
use Rattle.subdivision.specs.Calls.{reading_under, reading}
use Rattle.subdivision.specs.Signed.{ReadAsSigned}
use Rattle.theory.proofs.Chains.{accepted_line}
use Rattle.theory.proofs.Decide.{means}
use Rattle.theory.proofs.Judgement.{judged_append, none_named, accepted_decides}
use Rattle.theory.proofs.CircleZones.{reading_circle}
use Rattle.theory.proofs.Earlier.{reading_as_before, given_as_before}
use Rattle.theory.proofs.Faults.{reading_refused_exactly}
use Rattle.theory.proofs.Signed.{read_as_signed}
use Rattle.theory.proofs.OneThing.{by_plain, accepted_reads, one_thing as in_one_thing}
use Rattle.theory.proofs.Readings.{zones_agree, read_so}
use Rattle.sheet.specs.Judgement.{line_left}
use Rattle.scans.specs.Scans.{vertex_at, edge_on, edge_beneath, zone_from, placed}
use Rattle.reading.proofs.Highest.{highest_beneath}

-- where the tables pass, the first of the words that their judgement left is the first zone
pub first_read : (s : Sheet) (v : Verdict) (u : Unit {0}) (line lent : List ℕ) → judged (table_refusals s) ≡ v → v ≡ Ok u → line ≡ line_left s v lent → get_or line 0 0 ≡ first_zone s
unfolding first_zone
first_read s v u line lent e p w =
    rw w (rw p (get_or-append (zone_line s) (drop (length (zone_line s)) lent) 0 0 (omega (arith, accepted_line s a, a.counts.1.1.0))))
  where
    a : Accepted s
    a = (accepted_decides s).0 (e ∙ p)

module _ (s : Sheet) (x y : ℕ) where
  -- off the vertices and the edges the plain reading is the zone read from beneath
  off_reads_zone : OffVertices s x y → OffEdges s x y → plain_reading s x y ≡ Answer.Zone (zone_beneath s x y)
  off_reads_zone v e =
      by_plain s x y (λ r. r ≡ Answer.Zone (zone_beneath s x y)) (λ u h i. absurd (v u h i)) (λ n f h i. absurd (e f h i)) (λ n m. refl)

  module _ (first : ℕ) (a : Accepted s) (o : OnSheet s x y) (e : first ≡ first_zone s) where
    zone_from_lem : zone_from s.vertices s.edges x y (east_margin s) first ≡ zone_beneath s x y
    unfolding zone_beneath
    zone_from_lem = λ i. elim (ltb (h i) (edge_count s)) [ true ↦ above_of s (h i) | false ↦ e i ]
      where
        h : edge_beneath s.vertices s.edges x y (east_margin s) ≡ lowest (λ e. holds (is_highest s (reading_line s x) (beneath s x y) e)) (edge_count s)
        h = highest_beneath s a x y o

    -- the scans find what the plain reading asks for
    placed_is_plain : placed s.vertices s.edges x y (east_margin s) first ≡ plain_reading s x y
    unfolding plain_reading
    placed_is_plain = λ i. elim (ltb v (vertex_count s)) [ true ↦ Answer.Vertex v | false ↦ elim (ltb f (edge_count s)) [ true ↦ Answer.Edge f | false ↦ Answer.Zone (zone_from_lem i) ] ]
      where
        v : ℕ
        v = vertex_at s.vertices x y

        f : ℕ
        f = edge_on s.vertices s.edges x y

-- the promises of an answer, each of the contract's clauses by its name, but `given` where the contract says `refused`
pub record Promised (s : Sheet) (x y : ℤ) (r : Reply) : Type 0 where
  pub answer : r ≡ reading s x y
  pub given : (number item : ℕ) → (r ≡ refused number item) ↔ GivenBy (reading_refusals s (shifted x) (shifted y)) number item
  pub one_thing : OneThingOnly s (shifted x) (shifted y) r
  pub agreed : ReadingsAgree s (shifted x) (shifted y) r
  pub circle : (item : ℕ) → r ≡ refused 13 item → LowestOnCircle s item
  pub as_before : GivenAsBefore (earlier_reading_refusals s (shifted x) (shifted y)) (λ number item. r ≡ refused number item)
  pub signed : ReadAsSigned s x y r

module _ (s : Sheet) (x y : ℤ) where
  -- the answer that a verdict comes to
  abbrev answer_to : Verdict → Reply
  answer_to v = elim v [ Ok u ↦ Ok (plain_reading s (shifted x) (shifted y)) | Err e ↦ Err e ]

  -- the reading is judged by its refusals
  reading_judged : reading s x y ≡ answer_to (judged (reading_refusals s (shifted x) (shifted y)))
  unfolding reading
  reading_judged =
      go (judged (table_refusals s)) (holds here)
      ∙ ap answer_to (sym (judged_append (table_refusals s) (unnamed 20 here ∷ [])))
    where
      here : Formula
      here = on_sheet s (shifted x) (shifted y)

      go : (v : Verdict) (b : Bool)
          → ◌≡◌ {A = Reply} (elim v [ Err e ↦ Err e | Ok u ↦ elim b [ false ↦ refused 20 0 | true ↦ Ok (plain_reading s (shifted x) (shifted y)) ] ])
          (answer_to (elim v [ Ok u ↦ elim b [ true ↦ passed | false ↦ refused 20 (names (unnamed 20 here)) ] | Err e ↦ Err e ]))
      go (Ok u) true = refl
      go (Ok u) false = ap (λ item. refused 20 item) (none_named 20 here)
      go (Err e) b = refl

  -- a refusal is answered exactly when it is the verdict
  answer_refused : (v : Verdict) (number item : ℕ) → (answer_to v ≡ refused number item) ↔ (v ≡ refused number item)
  answer_refused (Ok u) number item = (λ p. absurd (false≢true cc), λ p. absurd (false≢true cc))
  answer_refused (Err e) number item = (λ p. cc, λ p. ap answer_to p)

  refused_exactly : (number item : ℕ) → (reading s x y ≡ refused number item) ↔ GivenBy (reading_refusals s (shifted x) (shifted y)) number item
  refused_exactly number item =
      (λ p. given.0 (answer.0 (sym reading_judged ∙ p)), λ g. reading_judged ∙ answer.1 (given.1 g))
    where
      verdict : Verdict
      verdict = judged (reading_refusals s (shifted x) (shifted y))

      answer : (answer_to verdict ≡ refused number item) ↔ (verdict ≡ refused number item)
      answer = answer_refused verdict number item

      given : (verdict ≡ refused number item) ↔ GivenBy (reading_refusals s (shifted x) (shifted y)) number item
      given = reading_refused_exactly s (shifted x) (shifted y) number item

  -- the answer that the definition gives keeps every promise
  promised : (r : Reply) → r ≡ reading s x y → Promised s x y r
  promised r e = subst (λ r. Promised s x y r) (sym e) (record {
    answer = refl;
    given = refused_exactly;
    one_thing = λ a o. rw (accepted_reads s a x y o) (in_one_thing s a (shifted x) (shifted y) o);
    agreed = λ a o v f. (zone_beneath s (shifted x) (shifted y), accepted_reads s a x y o ∙ ap (λ r. Ok r) (off_reads_zone s (shifted x) (shifted y) v f), (zones_agree s a (shifted x) (shifted y) o f, read_so s a (shifted x) (shifted y) o f));
    circle = λ item g. reading_circle s (shifted x) (shifted y) item ((refused_exactly 13 item).0 g);
    as_before = given_as_before (reading_refusals s (shifted x) (shifted y)) (earlier_reading_refusals s (shifted x) (shifted y)) (λ number item. reading s x y ≡ refused number item) refused_exactly (reading_as_before s (shifted x) (shifted y));
    signed = read_as_signed s x y;
  })

  -- a refusal of the tables keeps them
  pub refusal_promised : (e : Refused) (r : Reply) → judged (table_refusals s) ≡ Err e → r ≡ Err e → Promised s x y r
  unfolding reading
  refusal_promised e r p q = promised r (rw (p, reading_under) q)

  -- refusal 20 of a point that is not on the sheet keeps them
  pub off_sheet_promised : judged (table_refusals s) ≡ passed → holds (on_sheet s (shifted x) (shifted y)) ≡ false → Promised s x y (refused 20 0)
  unfolding reading
  off_sheet_promised e f = promised (refused 20 0) (rw (e, f, reading_under))

  -- what the scans find keeps them
  pub placed_promised : (first : ℕ) (answer : Answer) → judged (table_refusals s) ≡ passed → holds (on_sheet s (shifted x) (shifted y)) ≡ true → first ≡ first_zone s
      → answer ≡ placed s.vertices s.edges (shifted x) (shifted y) (east_margin s) first → Promised s x y (Ok answer)
  placed_promised first answer e f z p = promised _ (ap (λ r. Ok r) (p ∙ placed_is_plain s (shifted x) (shifted y) first a o z) ∙ sym (accepted_reads s a x y o))
    where
      a : Accepted s
      a = (accepted_decides s).0 e

      o : OnSheet s (shifted x) (shifted y)
      o = means (on_sheet s (shifted x) (shifted y)) f
