-- What a month promises, from its definition and its refusals in turn.
use mathlib.Core.Path.{◌≡◌, refl, sym, ap, ◌∙◌, subst}
use mathlib.Core.Bool.{Bool, true, false, not, false≢true}
use mathlib.Core.List.{List, ◌∷◌}
use mathlib.Core.Logic.{◌⊎◌, inl, inr, ◌↔◌}
use Prim.Native.Nat.{ℕ, ◌<◌}
use borrow.Author.Tests.{not-true, eq-eqb}
use lib.Dec.{T}
use lib.Ieee.{Float, nan, binary64, fits}
use lib.ListN.{length, get_or}
use Rattle.std.specs.Prelude.{Ok, Err}
use Rattle.subdivision.specs.Results.{Verdict, Reply, refused}
use Rattle.subdivision.specs.declared.Answer.{Answer}
use Rattle.subdivision.specs.Sheet.{Sheet, zone_count}
use Rattle.subdivision.specs.Refusals.{Refusal, judged, limit_refusals, room_refusal}
use Rattle.subdivision.specs.Faults.{GivenBy, AllKept}
use Rattle.ledger.specs.Results.{Month, listed}
use Rattle.ledger.specs.Readings.{passes, taken, reading_sound, permit_of, permit_sound}
use Rattle.ledger.specs.Months.{Samples, Lent, Left, sample_count, reading_at, damaged, too_coarse, taken_and, room_kept, own_refusals, entered, month_refusals, searched_at, month_of}
use Rattle.ledger.specs.Promises.{OnePlace, CountsSamples, OneValue, OutsideChangesNothing, ReadPlainly}
use Rattle.theory.proofs.Faults.{Sound, given_exactly, sound_append, unnamed_sound, each_sound, limits_sound}
use Rattle.theory.proofs.Judgement.{passed_keeps, kept_passes}
use Rattle.theory.proofs.Results.{same_refusal}
use Rattle.accounting.proofs.Promises.{Placed, one_place, counts_samples, one_value, outside_changes_nothing, read_plainly}
use Rattle.accounting.proofs.Tests.{passes_means}
use Rattle.months.specs.Lines.{lent_refusals}
use Rattle.months.proofs.Spots.{Fair}
use Rattle.months.proofs.Month.{month_refused, month_passed, fair}

-- a taken sample that 22 does not refuse lies in a zone, on a boundary or off the sheet
fair_placed : (n : ℕ) (a : Reply) → Fair n a → damaged a ≡ false → Placed n a
fair_placed n (Ok (Answer.Vertex v)) f d = inr (inl refl)
fair_placed n (Ok (Answer.Edge e)) f d = inr (inl refl)
fair_placed n (Ok (Answer.Zone z)) f d = inl (z, f.0 z refl, refl)
fair_placed n (Err e) f d = go (f.1 e.number e.item refl)
  where
    go : (e.number ≡ 20) ⊎ (e.number ≡ 22) → Placed n (Err e)
    go (inl h) = inr (inr (eq-eqb e.number 20 h))
    go (inr h) = absurd (false≢true (sym d ∙ eq-eqb e.number 22 h))

module _ (s : Sheet) (index : List ℕ) (t : Samples) (permits : List Float) (lent : Lent) where
  -- the answer for a sample
  abbrev answer : ℕ → Reply
  answer = searched_at s index t

  -- the lines of the month
  abbrev lines : List Refusal
  lines = month_refusals answer t permits s (length index) lent

  -- the promises of what is left, in the order of the contract
  abbrev pub Promised : Left → Type 0
  Promised left =
      (left ≡ month_of s index t permits lent)
      × (((number item : ℕ) → (left.month ≡ refused number item) ↔ GivenBy lines number item)
      × (((number item : ℕ) → left.month ≡ refused number item → left.lent ≡ lent)
      × (((boundary off : ℕ) → left.month ≡ listed boundary off → OnePlace answer t (zone_count s) × CountsSamples answer t (zone_count s) left.lent.results)
      × (((boundary off : ℕ) → left.month ≡ listed boundary off → OneValue answer t (zone_count s) left.lent.means)
      × (((boundary off : ℕ) → left.month ≡ listed boundary off → OutsideChangesNothing s index t permits lent left.lent.results left.lent.means)
      × ReadPlainly s index t permits lent left)))))

  -- the judgement names the right items
  sound : Sound lines
  sound =
      sound_append (limit_refusals s) (room_refusal s (length index) ∷ own_refusals answer t permits s lent) (limits_sound s)
      (λ f. unnamed_sound 3 (room_refusal s (length index)).kept, λ k3. (λ f. unnamed_sound 43 (room_kept t permits s lent), λ k43. (each_sound 42 (zone_count s) (λ z. permit_sound (permit_of permits z)), λ k42. (each_sound 40 (sample_count t) (λ k. passes (reading_sound (reading_at t k))), λ k40. (each_sound 22 (sample_count t) (λ k. passes (not (taken_and answer t damaged k))), λ k22. (each_sound 41 (sample_count t) (λ k. passes (not (too_coarse permits (reading_at t k) (answer k)))), λ k41. tt))))))

  -- by a line: the month is its refusal, and nothing is written
  abbrev ByLine : Type 0
  ByLine = (number : ℕ) × (item : ℕ) × ((judged lines ≡ refused number item) × (month_of s index t permits lent ≡ record { month = refused number item; lent = lent }))

  -- by none: every line is kept, and the month is entered
  abbrev ByNone : Type 0
  ByNone = AllKept lines × (month_of s index t permits lent ≡ entered answer t permits s lent)

  comes : ByLine ⊎ ByNone
  comes = go (judged lines) refl
    where
      go : (v : Verdict) → judged lines ≡ v → ByLine ⊎ ByNone
      go (Err f) e = inl (f.number, f.item, (e, month_refused s index t permits lent f.number f.item e))
      go (Ok tt) e = inr (passed_keeps lines e, month_passed s index t permits lent e)

  -- a refusal is given exactly when its own line says so
  refused_exactly : (number item : ℕ) → ((month_of s index t permits lent).month ≡ refused number item) ↔ GivenBy lines number item
  refused_exactly number item = (λ e. there e comes, λ g. ap (λ l. l.month) (month_refused s index t permits lent number item (given.1 g)))
    where
      given : (judged lines ≡ refused number item) ↔ GivenBy lines number item
      given = given_exactly lines sound number item

      there : (month_of s index t permits lent).month ≡ refused number item → ByLine ⊎ ByNone → GivenBy lines number item
      there e (inl (n, i, (j, m))) =
          let same = same_refusal n i number item (sym (ap (λ l. l.month) m) ∙ e) in given.0 (j ∙ (λ k. refused (same.0 k) (same.1 k)))
      there e (inr (k, m)) =
          let other : (entered answer t permits s lent).month ≡ refused number item = sym (ap (λ l. l.month) m) ∙ e in
          absurd (false≢true cc)

  -- a refused month writes nothing
  refused_leaves : (number item : ℕ) → (month_of s index t permits lent).month ≡ refused number item → (month_of s index t permits lent).lent ≡ lent
  refused_leaves number item e = go comes
    where
      go : ByLine ⊎ ByNone → (month_of s index t permits lent).lent ≡ lent
      go (inl (n, i, (j, m))) = ap (λ l. l.lent) m
      go (inr (k, m)) =
          let other : (entered answer t permits s lent).month ≡ refused number item = sym (ap (λ l. l.month) m) ∙ e in
          absurd (false≢true cc)

  -- a good month came by none of the lines
  came_by_none : (boundary off : ℕ) → (month_of s index t permits lent).month ≡ listed boundary off → ByNone
  came_by_none boundary off e = go comes
    where
      go : ByLine ⊎ ByNone → ByNone
      go (inl (n, i, (j, m))) =
          let other : refused n i ≡ listed boundary off = sym (ap (λ l. l.month) m) ∙ e in
          absurd (false≢true cc)
      go (inr n) = n

  -- of a month whose lines are all kept, every taken sample is placed
  all_placed : AllKept lines → (k : ℕ) → k < sample_count t → taken (reading_at t k) ≡ true → Placed (zone_count s) (answer k)
  all_placed (k1, (k2, (k3, (k43, (k42, (k40, (k22, rest))))))) k h e =
      fair_placed (zone_count s) (answer k)
      (fair s index t permits lent (kept_passes (lent_refusals s (length index) t permits lent) (k1, (k2, (k3, (k43, (k42, (k40, tt))))))) k)
      (sym (ap (λ (b : Bool). elim b [ true ↦ damaged (answer k) | false ↦ false ]) e) ∙ not-true (taken_and answer t damaged k) (passes_means (not (taken_and answer t damaged k)) (k22 k h)))

  -- what the definition gives keeps every promise, where the values of a judged month are doubles
  pub promised : (left : Left) → left ≡ month_of s index t permits lent
      → ((boundary off : ℕ) → left.month ≡ listed boundary off → (k : ℕ) → k < sample_count t → T (fits binary64 (get_or t.values k nan))) → Promised left
  promised left e doubles =
      subst Promised (sym e)
      (refl, (refused_exactly, (refused_leaves, ((λ b o j. placed (came_by_none b o j)), ((λ b o j. one (came_by_none b o j) (doubles b o (ap (λ l. l.month) e ∙ j))), ((λ b o j. outside (came_by_none b o j)), read_plainly s index t permits lent))))))
    where
      n : ℕ
      n = zone_count s

      placed : ByNone → OnePlace answer t n × CountsSamples answer t n (month_of s index t permits lent).lent.results
      placed (k, m) =
          (one_place answer t n (all_placed k), subst (λ l. CountsSamples answer t n l.lent.results) (sym m) (counts_samples answer t permits n lent.results))

      one : ByNone → ((k : ℕ) → k < sample_count t → T (fits binary64 (get_or t.values k nan))) → OneValue answer t n (month_of s index t permits lent).lent.means
      one (k, m) held =
          subst (λ l. OneValue answer t n l.lent.means) (sym m) (one_value answer t permits lent.means n k.1.1.1.0.1.1.1.1 held)

      outside : ByNone → OutsideChangesNothing s index t permits lent (month_of s index t permits lent).lent.results (month_of s index t permits lent).lent.means
      outside (k, m) =
          subst (λ l. OutsideChangesNothing s index t permits lent l.lent.results l.lent.means) (sym m)
          (λ other u same. outside_changes_nothing answer other t u permits n same lent.results lent.means)

  -- a refused month keeps them
  pub promised_refused : (month : Month) (number item : ℕ) → month ≡ refused number item → month_of s index t permits lent ≡ record { month = refused number item; lent = lent }
      → Promised (record { month = month; lent = lent })
  promised_refused month number item e m =
      promised (record { month = month; lent = lent }) ((λ i. record { month = e i; lent = lent }) ∙ sym m)
      (λ boundary off j. let other : refused number item ≡ listed boundary off = sym e ∙ j in absurd (false≢true cc))
