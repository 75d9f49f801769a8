-- The judgement of the tables against the written refusals: when it passes a sheet, and which refusal it gives.
use mathlib.Core.Path.{◌≡◌, refl, sym, ap, ◌∙◌}
use mathlib.Core.Bool.{Bool, true, false, not}
use mathlib.Core.List.{List, [], ◌∷◌, ◌++◌}
use mathlib.Core.Logic.{◌↔◌}
use Prim.Native.Nat.{ℕ, ◌<◌}
use native.Mathlib.Omega.{arith}
use borrow.Author.Tests.{not-true, not-false}
use Rattle.std.specs.Prelude.{Ok, Err}
use Rattle.subdivision.specs.Results.{Verdict, Reply, Search, passed, refused, reply_of, examined_of, probes_of}
use Rattle.subdivision.specs.Formula.{Formula, every_below, holds, Means}
use Rattle.subdivision.specs.Lowest.{lowest}
use Rattle.subdivision.specs.Sheet.{Sheet}
use Rattle.subdivision.specs.Refusals.{Refusal, names, unnamed, for_each, judged, limit_refusals, rule_refusals}
use Rattle.subdivision.specs.Accepted.{Accepted}
use Rattle.subdivision.specs.Faults.{LowestFault, AllKept}
use Rattle.theory.proofs.Decide.{means, held, denies, fails, broken_item}
use Rattle.theory.proofs.Lowest.{lowest_before, lowest_passes, lowest_at_most, lowest_le}
use Rattle.theory.proofs.ZoneLine.{line_decides}

pub passed_keeps : (rs : List Refusal) → judged rs ≡ passed → AllKept rs
passed_keeps [] e = tt
passed_keeps (r ∷ rs) e = go (holds r.kept) refl e (passed_keeps rs)
  where
    go : (b : Bool) → holds r.kept ≡ b
        → ◌≡◌ {A = Verdict} (elim b [ true ↦ judged rs | false ↦ refused r.number (names r) ]) passed
        → (judged rs ≡ passed → AllKept rs) → Means r.kept × AllKept rs
    go true h p rest = (means r.kept h, rest p)
    go false h p rest = let never : ◌≡◌ {A = ℕ} 0 1 = cc in absurd (omega arith)

pub kept_passes : (rs : List Refusal) → AllKept rs → judged rs ≡ passed
kept_passes [] k = refl
kept_passes (r ∷ rs) k = rw (held r.kept k.0, judged) (kept_passes rs k.1)

-- the lowest item that breaks a clause, where one below the count does
pub lowest_fault : (items : ℕ) (clause : ℕ → Formula) → lowest (λ k. not (holds (clause k))) items < items
    → LowestFault clause items (lowest (λ k. not (holds (clause k))) items)
lowest_fault items clause below =
    record { within = below; broken = denies (clause item) (not-true (holds (clause item)) (lowest_passes fault items below)); lower = λ k h. means (clause k) (not-false (holds (clause k)) (lowest_before fault items k h)) }
  where
    fault : ℕ → Bool
    fault k = not (holds (clause k))

    item : ℕ
    item = lowest fault items

pub names_lowest : (number items : ℕ) (clause : ℕ → Formula) → (Means (every_below items clause) → ⊥) → LowestFault clause items (names (for_each number items clause))
names_lowest number items clause f = lowest_fault items clause below
  where
    fault : ℕ → Bool
    fault k = not (holds (clause k))

    some : (k : ℕ) × (k < items) × (Means (clause k) → ⊥)
    some = broken_item items clause (fails (every_below items clause) f)

    below : lowest fault items < items
    below = omega (arith, some.1, lowest_at_most fault items some.0 (ap not (fails (clause some.0) some.2)))

-- refusals in two lists, one after the other: those of the second are looked at where the first passes
pub judged_append : (rs qs : List Refusal)
    → judged (rs ++ qs) ≡ (elim (judged rs) [ Ok u ↦ judged qs | Err e ↦ Err e ])
judged_append [] qs = refl
judged_append (r ∷ rs) qs = go (holds r.kept) (judged_append rs qs)
  where
    and_then : Verdict → Verdict
    and_then v = elim v [ Ok u ↦ judged qs | Err e ↦ Err e ]

    go : (b : Bool) → judged (rs ++ qs) ≡ and_then (judged rs)
        → ◌≡◌ {A = Verdict} (elim b [ true ↦ judged (rs ++ qs) | false ↦ refused r.number (names r) ])
        (and_then (elim b [ true ↦ judged rs | false ↦ refused r.number (names r) ]))
    go true rest = rest
    go false rest = refl

-- a refusal among the first lines is given
pub refused_first : (rs qs : List Refusal) (number item : ℕ) → judged rs ≡ refused number item → judged (rs ++ qs) ≡ refused number item
refused_first rs qs number item e =
    judged_append rs qs ∙ (λ i. elim (e i) [ Ok u ↦ judged qs | Err e ↦ Err e ])

-- past the first lines the others decide
pub passed_first : (rs qs : List Refusal) → judged rs ≡ passed → judged (rs ++ qs) ≡ judged qs
passed_first rs qs e = judged_append rs qs ∙ (λ i. elim (e i) [ Ok u ↦ judged qs | Err e ↦ Err e ])

-- a refusal that names nothing names 0
pub none_named : (number : ℕ) (kept : Formula) → 0 ≡ names (unnamed number kept)
none_named number kept = omega (arith, lowest_le (λ k. not (holds kept)) 0)

-- a line that names nothing is passed where it is kept
pub judged_unnamed_kept : (number : ℕ) (kept : Formula) (rs : List Refusal) → holds kept ≡ true → judged (unnamed number kept ∷ rs) ≡ judged rs
judged_unnamed_kept number kept rs e = rw (e, judged)

-- and is given where it is not, with no item
pub judged_unnamed_broken : (number : ℕ) (kept : Formula) (rs : List Refusal) → holds kept ≡ false → judged (unnamed number kept ∷ rs) ≡ refused number 0
judged_unnamed_broken number kept rs e = rw (e, judged) (ap (refused number) (sym (none_named number kept)))

-- where no item breaks the clause, every item keeps it
pub lowest_all_means : (items : ℕ) (clause : ℕ → Formula) → lowest (λ k. not (holds (clause k))) items ≡ items
    → (k : ℕ) → k < items → Means (clause k)
lowest_all_means items clause e k h =
    means (clause k) (not-false (holds (clause k)) (lowest_before (λ i. not (holds (clause i))) items k (omega arith)))

-- where some item breaks the clause, not every item keeps it
lowest_below_breaks : (items : ℕ) (clause : ℕ → Formula) → lowest (λ k. not (holds (clause k))) items < items
    → Means (every_below items clause) → ⊥
lowest_below_breaks items clause h m =
    denies (clause item) (not-true (holds (clause item)) (lowest_passes (λ k. not (holds (clause k))) items h)) (m item h)
  where
    item : ℕ
    item = lowest (λ k. not (holds (clause k))) items

-- a refusal for each item is passed where no item breaks its clause
pub judged_for_each_kept : (number items : ℕ) (clause : ℕ → Formula) (rs : List Refusal)
    → lowest (λ k. not (holds (clause k))) items ≡ items → judged (for_each number items clause ∷ rs) ≡ judged rs
judged_for_each_kept number items clause rs e =
    rw (held (every_below items clause) (lowest_all_means items clause e), judged)

-- a refusal for each item is given where some item breaks its clause, and names the lowest
pub judged_for_each_broken : (number items : ℕ) (clause : ℕ → Formula) (rs : List Refusal)
    → lowest (λ k. not (holds (clause k))) items < items
    → judged (for_each number items clause ∷ rs) ≡ refused number (lowest (λ k. not (holds (clause k))) items)
judged_for_each_broken number items clause rs h =
    rw (fails (every_below items clause) (lowest_below_breaks items clause h), judged)

-- a sheet is accepted exactly when the judgement passes it
pub accepted_decides : (s : Sheet) → (judged (limit_refusals s ++ rule_refusals s) ≡ passed) ↔ Accepted s
accepted_decides s = (λ e. accept (passed_keeps (limit_refusals s ++ rule_refusals s) e), λ a. kept_passes (limit_refusals s ++ rule_refusals s) (keep a))
  where
    accept : AllKept (limit_refusals s ++ rule_refusals s) → Accepted s
    accept (k1, (k2, (k4, (k5, (k6, (k7, (k8, (k9, (k10, (k11, (k12, (k13, t)))))))))))) =
        record { counts = k1; margins = k2; one = (k4, k5); two = (k6, (k7, k8)); three = k9; four = k10; five = k11; six = k12; seven = (line_decides s (λ e h. (k6 e h).1)).0 k13 }

    keep : Accepted s → AllKept (limit_refusals s ++ rule_refusals s)
    keep a =
        (a.counts, (a.margins, (a.one.0, (a.one.1, (a.two.0, (a.two.1.0, (a.two.1.1, (a.three, (a.four, (a.five, (a.six, ((line_decides s (λ e h. (a.two.0 e h).1)).1 a.seven, tt))))))))))))
