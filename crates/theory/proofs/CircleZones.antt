-- The zone that refusal 13 names, in the words of document 02's P4: at most n steps lead as far as any number do, and where 13 is given its
-- zone is on a circle and no lower one is.
use mathlib.Core.Path.{◌≡◌}
use mathlib.Core.List.{List, [], ◌∷◌, ◌++◌}
use mathlib.Core.Logic.{inl, inr, ⊎_elim, ◌↔◌}
use Prim.Native.Nat.{ℕ, ◌<◌}
use native.Mathlib.Omega.{arith}
use lib.ListN.{take}
use Rattle.subdivision.specs.Formula.{Means}
use Rattle.subdivision.specs.Sheet.{Sheet, edge_count, zone_count, above_of}
use Rattle.subdivision.specs.ZoneLine.{OnCircle, on_circle}
use Rattle.subdivision.specs.Refusals.{Refusal, unnamed, limit_refusals, room_refusal, circle_refusal, rule_refusals}
use Rattle.subdivision.specs.Faults.{Named, GivenBy, AllKept, LowestOnCircle, opening_refusals, table_refusals, reading_refusals}
use Rattle.subdivision.specs.Reading.{on_sheet}
use Rattle.theory.proofs.Decide.{decided}
use Rattle.theory.proofs.Reached.{any_steps}

-- no line has this number
abbrev Unlike : ℕ → List Refusal → Type 0
Unlike number [] = Unit {0}
Unlike number (r ∷ rs) = (number ≡ r.number → ⊥) × Unlike number rs

none_given : (number item : ℕ) (rs : List Refusal) → Unlike number rs → GivenBy rs number item → ⊥
none_given number item [] u g = g
none_given number item (r ∷ rs) u (inl f) = u.0 f.0
none_given number item (r ∷ rs) u (inr g) = none_given number item rs u.1 g.1

-- a number that one line alone has is given by that line, with the lines before it kept
given_own : (number item : ℕ) (r : Refusal) (before after : List Refusal) → Unlike number before → Unlike number after
    → GivenBy (before ++ (r ∷ after)) number item → AllKept before × Named r item
given_own number item r [] after u w (inl f) = (tt, f.1.1)
given_own number item r [] after u w (inr g) = absurd (none_given number item after w g.1)
given_own number item r (q ∷ before) after u w (inl f) = absurd (u.0 f.0)
given_own number item r (q ∷ before) after u w (inr g) =
    let rest = given_own number item r before after u.1 w g.1 in ((g.0, rest.0), rest.1)

module _ (s : Sheet) where
  -- one step and at most n more lead back exactly when one and any number more do
  pub on_circle_says : ((e : ℕ) → e < edge_count s → above_of s e < zone_count s) → (c : ℕ) → Means (on_circle s c) ↔ OnCircle s c
  on_circle_says named c =
      (λ m. (m.0, m.1, (m.2.0, (zone_count s, m.2.1))), λ m. any_steps s c named m.2.1.0 m.0 m.1 m.2.0 m.2.1.1)

  -- what line 13 names is the lowest zone on a circle
  named_lowest : ((e : ℕ) → e < edge_count s → above_of s e < zone_count s) → 0 < zone_count s → (z : ℕ) → Named (circle_refusal s) z → LowestOnCircle s z
  named_lowest named some z (inl f) = absurd (omega (arith, f.0))
  named_lowest named some z (inr f) =
      record { there = f.within; circling = (on_circle_says named z).0 (⊎_elim (λ m. m) (λ d. absurd (f.broken d)) (decided (on_circle s z))); lower = λ y h m. f.lower y h ((on_circle_says named y).1 m) }

  -- the lines about the tables, before 13
  abbrev pub table_lines : List Refusal
  table_lines = limit_refusals s ++ take 9 (rule_refusals s)

  unlike_13 : Unlike 13 table_lines
  unlike_13 = (λ e. omega arith, (λ e. omega arith, (λ e. omega arith, (λ e. omega arith, (λ e. omega arith, (λ e. omega arith, (λ e. omega arith, (λ e. omega arith, (λ e. omega arith, (λ e. omega arith, (λ e. omega arith, tt)))))))))))

  lowest_of : (z : ℕ) → AllKept table_lines → Named (circle_refusal s) z → LowestOnCircle s z
  lowest_of z (k1, (k2, (k4, (k5, (k6, rest))))) n = named_lowest (λ e h. (k6 e h).1.0) k1.1.1.0 z n

  pub table_circle : (z : ℕ) → GivenBy (table_refusals s) 13 z → LowestOnCircle s z
  table_circle z g = let own = given_own 13 z (circle_refusal s) table_lines [] unlike_13 tt g in lowest_of z own.0 own.1

  pub reading_circle : (x y z : ℕ) → GivenBy (reading_refusals s x y) 13 z → LowestOnCircle s z
  reading_circle x y z g =
      let own = given_own 13 z (circle_refusal s) table_lines (unnamed 20 (on_sheet s x y) ∷ []) unlike_13 (λ e. omega arith, tt) g in
      lowest_of z own.0 own.1

  pub opening_circle : (words z : ℕ) → GivenBy (opening_refusals s words) 13 z → LowestOnCircle s z
  opening_circle words z g =
      let own = given_own 13 z (circle_refusal s) (limit_refusals s ++ (room_refusal s words ∷ take 9 (rule_refusals s))) [] (unlike_13.0, (unlike_13.1.0, (λ e. omega arith, unlike_13.1.1))) tt g in
      lowest_of z (own.0.0, (own.0.1.0, own.0.1.1.1)) own.1
