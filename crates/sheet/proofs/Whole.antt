-- The judgement of the tables, from its four parts one after the other, and what a verdict then says of the sheet.
use mathlib.Core.Path.{◌≡◌, sym, ap, ◌∙◌, subst}
use mathlib.Core.List.{List}
use Rattle.std.specs.Prelude.{Err}
use Rattle.subdivision.specs.declared.Refused.{Refused}
use mathlib.Core.List.{◌++◌}
use mathlib.Core.Logic.{◌↔◌}
use Prim.Native.Nat.{ℕ}
use Rattle.subdivision.specs.Results.{Verdict, passed, refused}
use Rattle.subdivision.specs.Sheet.{Sheet}
use Rattle.subdivision.specs.Refusals.{judged, limit_refusals}
use Rattle.subdivision.specs.Faults.{GivenBy, LowestOnCircle, table_refusals}
use Rattle.subdivision.specs.Accepted.{Accepted}
use Rattle.subdivision.specs.Earlier.{earlier_table_refusals, GivenAsBefore}
use Rattle.theory.proofs.Judgement.{refused_first, passed_first, accepted_decides}
use Rattle.theory.proofs.CircleZones.{table_circle}
use Rattle.theory.proofs.Earlier.{table_as_before, given_as_before}
use Rattle.theory.proofs.Faults.{table_refused_exactly}
use Rattle.sheet.specs.Judgement.{record_refusals, drawing_refusals, zone_refusals, line_left}

module _ (s : Sheet) where
  pub refused_by_limits : (number item : ℕ) → judged (limit_refusals s) ≡ refused number item → refused number item ≡ judged (table_refusals s)
  refused_by_limits number item e =
      sym (refused_first (limit_refusals s) (record_refusals s ++ (drawing_refusals s ++ zone_refusals s)) number item e)

  module _ (limits : judged (limit_refusals s) ≡ passed) where
    past_limits : judged (table_refusals s) ≡ judged (record_refusals s ++ (drawing_refusals s ++ zone_refusals s))
    past_limits = passed_first (limit_refusals s) (record_refusals s ++ (drawing_refusals s ++ zone_refusals s)) limits

    pub refused_by_records : (number item : ℕ) → judged (record_refusals s) ≡ refused number item → refused number item ≡ judged (table_refusals s)
    refused_by_records number item e =
        sym (past_limits ∙ refused_first (record_refusals s) (drawing_refusals s ++ zone_refusals s) number item e)

    module _ (records : judged (record_refusals s) ≡ passed) where
      past_records : judged (table_refusals s) ≡ judged (drawing_refusals s ++ zone_refusals s)
      past_records = past_limits ∙ passed_first (record_refusals s) (drawing_refusals s ++ zone_refusals s) records

      pub refused_by_drawing : (number item : ℕ) → judged (drawing_refusals s) ≡ refused number item → refused number item ≡ judged (table_refusals s)
      refused_by_drawing number item e = sym (past_records ∙ refused_first (drawing_refusals s) (zone_refusals s) number item e)

      pub judged_by_zones : judged (drawing_refusals s) ≡ passed → judged (zone_refusals s) ≡ judged (table_refusals s)
      judged_by_zones drawing = sym (past_records ∙ passed_first (drawing_refusals s) (zone_refusals s) drawing)

  -- what the rules' statements say of a verdict
  abbrev Says : Verdict → Type 0
  Says v =
      ((v ≡ passed) ↔ Accepted s)
      × (((number item : ℕ) → (v ≡ refused number item) ↔ GivenBy (table_refusals s) number item)
      × (((item : ℕ) → v ≡ refused 13 item → LowestOnCircle s item)
      × GivenAsBefore (earlier_table_refusals s) (λ number item. v ≡ refused number item)))

  -- a verdict on the tables, as the rules' statements
  pub verdict_says : (v : Verdict) → v ≡ judged (table_refusals s) → Says v
  verdict_says v e =
      subst Says (sym e)
      (accepted_decides s, (table_refused_exactly s, (λ item g. table_circle s item ((table_refused_exactly s 13 item).0 g), given_as_before (table_refusals s) (earlier_table_refusals s) (λ number item. judged (table_refusals s) ≡ refused number item) (table_refused_exactly s) (table_as_before s))))

-- what a verdict on the tables promises, over a lent line, with what is left of it
pub record Told (s : Sheet) (line : List ℕ) (v : Verdict) (left : List ℕ) : Type 0 where
  pub verdict : v ≡ judged (table_refusals s)
  pub written : left ≡ line_left s v line
  pub accepted : (v ≡ passed) ↔ Accepted s
  pub given : (number item : ℕ) → (v ≡ refused number item) ↔ GivenBy (table_refusals s) number item
  pub circle : (item : ℕ) → v ≡ refused 13 item → LowestOnCircle s item
  pub as_before : GivenAsBefore (earlier_table_refusals s) (λ number item. v ≡ refused number item)

module _ (s : Sheet) (line : List ℕ) where
  told : (v : Verdict) (left : List ℕ) → v ≡ judged (table_refusals s) → left ≡ line_left s v line → Told s line v left
  told v left e w =
      let says = verdict_says s v e in
      record { verdict = e; written = w; accepted = says.0; given = says.1.0; circle = says.1.1.0; as_before = says.1.1.1 }

  -- a refusal leaves the line as it was
  told_refused : (e : Refused) (v : Verdict) → v ≡ Err e → Err e ≡ judged (table_refusals s) → Told s line v line
  told_refused e v p q = told v line (p ∙ q) (ap (λ w. line_left s w line) (sym p))

  pub told_by_limits : (e : Refused) (v : Verdict) → judged (limit_refusals s) ≡ Err e → v ≡ Err e → Told s line v line
  told_by_limits e v h p = told_refused e v p (refused_by_limits s e.number e.item h)

  module _ (limits : judged (limit_refusals s) ≡ passed) where
    pub told_by_records : (e : Refused) (v : Verdict) → judged (record_refusals s) ≡ Err e → v ≡ Err e → Told s line v line
    told_by_records e v h p = told_refused e v p (refused_by_records s limits e.number e.item h)

    module _ (records : judged (record_refusals s) ≡ passed) where
      pub told_by_drawing : (e : Refused) (v : Verdict) → judged (drawing_refusals s) ≡ Err e → v ≡ Err e → Told s line v line
      told_by_drawing e v h p = told_refused e v p (refused_by_drawing s limits records e.number e.item h)

      pub told_by_zones : judged (drawing_refusals s) ≡ passed → (v : Verdict) (left : List ℕ) → v ≡ judged (zone_refusals s) → left ≡ line_left s v line → Told s line v left
      told_by_zones drawing v left e w = told v left (e ∙ judged_by_zones s limits records drawing) w
