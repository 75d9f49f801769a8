-- The judgement gives a refusal exactly when its own line of the table says so, and passes exactly the sheets that keep every line.
use mathlib.Core.Path.{◌≡◌, refl, sym}
use mathlib.Core.Bool.{Bool, true, false, not}
use mathlib.Core.List.{List, [], ◌∷◌, ◌++◌}
use mathlib.Core.Logic.{inl, inr, ◌↔◌}
use Prim.Native.Nat.{ℕ, ◌<◌, ◌≤◌}
use native.Mathlib.Omega.{arith}
use Rattle.std.specs.Prelude.{Ok, Err}
use Rattle.subdivision.specs.Results.{Verdict, Reply, Search, passed, refused, reply_of, examined_of, probes_of}
use Rattle.subdivision.specs.Formula.{Formula, holds, Means}
use Rattle.subdivision.specs.Lowest.{lowest}
use Rattle.subdivision.specs.Sheet.{Sheet, vertex_count, edge_count, zone_count, above_of, below_of}
use Rattle.subdivision.specs.Rules.{vertex_inside, vertex_new, edge_names, edge_runs, zones_differ, vertex_regular, edge_clear, names_agree, zone_named}
use Rattle.subdivision.specs.Layout.{index_need}
use Rattle.subdivision.specs.ZoneLine.{is_in, zone_line, rule7, on_circle}
use Rattle.subdivision.specs.Refusals.{Refusal, names, unnamed, for_each, judged, counts_kept, margins_kept, limit_refusals, room_refusal, circle_refusal, rule_refusals, trail_room}
use Rattle.subdivision.specs.Faults.{LowestFault, Named, GivenBy, AllKept, opening_refusals, table_refusals, reading_refusals, search_refusals}
use Rattle.subdivision.specs.Accepted.{Accepted}
use Rattle.subdivision.specs.Earlier.{earlier_circle_refusal}
use Rattle.subdivision.specs.Reading.{on_sheet}
use Rattle.theory.proofs.Decide.{means, held, denies, fails}
use Rattle.theory.proofs.Lowest.{is_lowest_lem, lowest_le, lowest_at_most}
use Rattle.theory.proofs.Judgement.{passed_keeps, kept_passes, none_named, lowest_fault, names_lowest, accepted_decides}
use Rattle.theory.proofs.Circles.{line_full, some_on_circle, circle_named, earlier_named}
use Rattle.theory.proofs.Results.{same_refusal}

-- an item that a line names is the one that the judgement names
named_one : (r : Refusal) (item : ℕ) → Named r item → item ≡ names r
named_one r item (inl (none, e)) = omega (arith, lowest_le (λ k. not (holds (r.clause k))) r.items)
named_one r item (inr f) =
    sym (is_lowest_lem (record { within = omega (arith, f.within); before = λ k h. fault_kept k (f.lower k h); passes = λ h. fault_broken (fails (r.clause item) f.broken) }))
  where
    fault_kept : (k : ℕ) → Means (r.clause k) → not (holds (r.clause k)) ≡ false
    fault_kept k m = λ i. not (held (r.clause k) m i)

    fault_broken : holds (r.clause item) ≡ false → not (holds (r.clause item)) ≡ true
    fault_broken e = λ i. not (e i)

-- the judgement names the right item of each line, where the lines before it are kept
abbrev pub Sound : List Refusal → Type 0
Sound [] = Unit {0}
Sound (r ∷ rs) = ((Means r.kept → ⊥) → Named r (names r)) × (Means r.kept → Sound rs)

-- what is given is what the lines say
pub given_says : (rs : List Refusal) → Sound rs → (number item : ℕ) → judged rs ≡ refused number item → GivenBy rs number item
given_says [] s number item e = let never : ◌≡◌ {A = ℕ} 0 1 = cc in absurd (omega arith)
given_says (r ∷ rs) s number item e = go (holds r.kept) refl e (λ m. given_says rs (s.1 m) number item)
  where
    go : (b : Bool) → holds r.kept ≡ b
        → ◌≡◌ {A = Verdict} (elim b [ true ↦ judged rs | false ↦ refused r.number (names r) ]) (refused number item)
        → (Means r.kept → judged rs ≡ refused number item → GivenBy rs number item) → GivenBy (r ∷ rs) number item
    go true h p rest = inr (means r.kept h, rest (means r.kept h) p)
    go false h p rest =
        let same = same_refusal r.number (names r) number item p in
        inl (sym same.0, (denies r.kept h, rw (sym same.1) (s.0 (denies r.kept h))))

-- what the lines say is given
pub says_given : (rs : List Refusal) (number item : ℕ) → GivenBy rs number item → judged rs ≡ refused number item
says_given [] number item g = absurd g
says_given (r ∷ rs) number item (inl f) =
    rw (fails r.kept f.1.0, judged) (λ i. refused (sym f.0 i) (sym (named_one r item f.1.1) i))
says_given (r ∷ rs) number item (inr g) = rw (held r.kept g.0, judged) (says_given rs number item g.1)

-- lines whose judgement names the right items give each refusal exactly when its own line says so
pub given_exactly : (rs : List Refusal) → Sound rs → (number item : ℕ) → (judged rs ≡ refused number item) ↔ GivenBy rs number item
given_exactly rs s number item = (given_says rs s number item, says_given rs number item)

-- lines after lines
pub sound_append : (rs qs : List Refusal) → Sound rs → Sound qs → Sound (rs ++ qs)
sound_append [] qs s t = t
sound_append (r ∷ rs) qs s t = (s.0, λ k. sound_append rs qs (s.1 k) t)

-- a line that names nothing names nothing
pub unnamed_sound : (number : ℕ) (kept : Formula) → Named (unnamed number kept) (names (unnamed number kept))
unnamed_sound number kept = inl (refl, sym (none_named number kept))

-- a line for each item names the lowest that breaks its clause
pub each_sound : (number items : ℕ) (clause : ℕ → Formula) → (Means (for_each number items clause).kept → ⊥)
    → Named (for_each number items clause) (names (for_each number items clause))
each_sound number items clause f = inr (names_lowest number items clause f)

module _ (s : Sheet) where
  module _ (named : (e : ℕ) → e < edge_count s → (above_of s e < zone_count s) × (below_of s e < zone_count s)) (stuck : Means (rule7 s) → ⊥) where
    -- where rule 7 can't be kept, the line used leaves a zone
    left_below : lowest (λ z. not (holds (is_in z (zone_line s)))) (zone_count s) < zone_count s
    left_below = omega (arith, lowest_le (λ z. not (holds (is_in z (zone_line s)))) (zone_count s), full)
      where
        full : lowest (λ z. not (holds (is_in z (zone_line s)))) (zone_count s) ≡ zone_count s → ⊥
        full e = stuck ((line_full s).1 e)

    -- refusal 13 names the lowest zone that is itself on a circle
    pub circle_lowest : LowestFault (circle_refusal s).clause (zone_count s) (names (circle_refusal s))
    circle_lowest = lowest_fault (zone_count s) (circle_refusal s).clause (below (some_on_circle s named left_below))
      where
        below : (c : ℕ) × (c < zone_count s) × Means (on_circle s c) → names (circle_refusal s) < zone_count s
        below (c, h, o) = omega (arith, circle_named s, lowest_at_most (λ z. holds (on_circle s z)) (zone_count s) c (held (on_circle s c) o))

    -- before P4 it named the lowest zone with a circle at it or below it
    pub earlier_lowest : LowestFault (earlier_circle_refusal s).clause (zone_count s) (names (earlier_circle_refusal s))
    earlier_lowest = lowest_fault (zone_count s) (earlier_circle_refusal s).clause (omega (arith, earlier_named s named, left_below))

  rules_sound : Sound (rule_refusals s)
  rules_sound =
      (each_sound 4 (vertex_count s) (vertex_inside s), λ k4. (each_sound 5 (vertex_count s) (vertex_new s), λ k5. (each_sound 6 (edge_count s) (edge_names s), λ k6. (each_sound 7 (edge_count s) (edge_runs s), λ k7. (each_sound 8 (edge_count s) (zones_differ s), λ k8. (each_sound 9 (vertex_count s) (vertex_regular s), λ k9. (each_sound 10 (edge_count s) (edge_clear s), λ k10. (each_sound 11 (vertex_count s) (names_agree s), λ k11. (each_sound 12 (zone_count s) (zone_named s), λ k12. ((λ f. inr (circle_lowest (λ e h. (k6 e h).1) f)), λ k13. tt))))))))))

  -- the lines of the limits
  pub limits_sound : Sound (limit_refusals s)
  limits_sound = (λ f. unnamed_sound 1 (counts_kept s), λ k1. (λ f. unnamed_sound 2 (margins_kept s), λ k2. tt))

  table_sound : Sound (table_refusals s)
  table_sound = sound_append (limit_refusals s) (rule_refusals s) limits_sound rules_sound

  -- each refusal about the tables is given exactly when its own line says so
  pub table_refused_exactly : (number item : ℕ) → (judged (table_refusals s) ≡ refused number item) ↔ GivenBy (table_refusals s) number item
  table_refused_exactly = given_exactly (table_refusals s) table_sound

  -- each refusal of the plain reading is given exactly when its own line says so
  pub reading_refused_exactly : (x y number item : ℕ)
      → (judged (reading_refusals s x y) ≡ refused number item) ↔ GivenBy (reading_refusals s x y) number item
  reading_refused_exactly x y =
      given_exactly (reading_refusals s x y) (sound_append (table_refusals s) (unnamed 20 (on_sheet s x y) ∷ []) table_sound (λ f. unnamed_sound 20 (on_sheet s x y), λ k. tt))

  module _ (words : ℕ) where
    -- each refusal of opening is given exactly when its own line says so
    pub refused_exactly : (number item : ℕ) → (judged (opening_refusals s words) ≡ refused number item) ↔ GivenBy (opening_refusals s words) number item
    refused_exactly =
        given_exactly (opening_refusals s words) (sound_append (limit_refusals s) (room_refusal s words ∷ rule_refusals s) limits_sound (λ f. unnamed_sound 3 (room_refusal s words).kept, λ k. rules_sound))

    -- of the lines that the quick search checks first, each gives its refusal exactly when it says so
    pub search_judged_exactly : (x y places number item : ℕ)
        → (judged (search_refusals s words x y places) ≡ refused number item) ↔ GivenBy (search_refusals s words x y places) number item
    search_judged_exactly x y places =
        given_exactly (search_refusals s words x y places)
        (sound_append (limit_refusals s) (room_refusal s words ∷ unnamed 20 (on_sheet s x y) ∷ unnamed 21 (trail_room s places) ∷ []) limits_sound (λ f. unnamed_sound 3 (room_refusal s words).kept, λ k3. (λ f. unnamed_sound 20 (on_sheet s x y), λ k20. (λ f. unnamed_sound 21 (trail_room s places), λ k21. tt))))

    -- a sheet is opened exactly when it is accepted and the index has room
    pub opened_exactly : (judged (opening_refusals s words) ≡ passed) ↔ (Accepted s × (index_need (zone_count s) (edge_count s) ≤ words))
    opened_exactly = (λ e. accept (passed_keeps (opening_refusals s words) e), λ a. kept_passes (opening_refusals s words) (keep a))
      where
        accept : AllKept (opening_refusals s words) → Accepted s × (index_need (zone_count s) (edge_count s) ≤ words)
        accept (k1, (k2, (k3, rest))) = ((accepted_decides s).0 (kept_passes (table_refusals s) (k1, (k2, rest))), k3)

        keep : Accepted s × (index_need (zone_count s) (edge_count s) ≤ words) → AllKept (opening_refusals s words)
        keep (a, room) = go (passed_keeps (table_refusals s) ((accepted_decides s).1 a))
          where
            go : AllKept (table_refusals s) → AllKept (opening_refusals s words)
            go (k1, (k2, rest)) = (k1, (k2, (room, rest)))
