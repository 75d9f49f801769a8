-- Walks along a fan by the library's `fold` and `all`: to the furthest edge, to the next edge up, and past every edge.
use Rattle.std.proofs.Common.{◌≡◌, ℕ, ◌<◌, Bool, true, false, List, [], ◌∷◌, length, get_or, ℤ, refl, sym, ◌∙◌, arith}
use Rattle.std.specs.List.{fold, AllWithin, HoldsAt}
use Rattle.std.specs.Bool.{MatchBool}
use Rattle.subdivision.specs.Formula.{Formula, every_below, holds}
use Rattle.theory.proofs.Decide.{denies, fails, yes_every}
use Rattle.fans.specs.Fans.{goes_on, furthest_from, nearer, next_from}

module _ (vertices : List ℤ) (edges : List ℕ) (eastern : Bool) where
  -- the further of two edges up or down a fan
  abbrev pub further : Bool → ℕ → ℕ → ℕ
  further up best e = elim (goes_on vertices edges eastern up best e) [ true ↦ e | false ↦ best ]

  -- the furthest edge is what the further of two gives along the fan
  pub fold_furthest : (up : Bool) (best : ℕ) (fan : List ℕ) → fold (further up) best fan ≡ furthest_from vertices edges eastern up best fan
  fold_furthest up best [] = refl
  fold_furthest up best (e ∷ es) = fold_furthest up (further up best e) es ∙ from (goes_on vertices edges eastern up best e)
    where
      from : (b : Bool) → furthest_from vertices edges eastern up (elim b [ true ↦ e | false ↦ best ]) es
          ≡ elim b [ true ↦ furthest_from vertices edges eastern up e es | false ↦ furthest_from vertices edges eastern up best es ]
      from true = refl
      from false = refl

  -- the next edge up is what the nearer of two gives along the fan
  pub fold_next : (e best : ℕ) (fan : List ℕ) → fold (nearer vertices edges eastern e) best fan ≡ next_from vertices edges eastern e best fan
  fold_next e best [] = refl
  fold_next e best (f ∷ fs) = fold_next e (nearer vertices edges eastern e best f) fs

-- a formula holds of every entry of a list where `all` finds none of which it does not
pub all_every : (formula : ℕ → Formula) (l : List ℕ) (r : Bool)
    → MatchBool r (AllWithin (λ e. holds (formula e) ≡ true) l 0 (length l)) ((k : ℕ) × (k < length l) × HoldsAt (λ e. holds (formula e) ≡ false) l k)
    → r ≡ holds (every_below (length l) (λ i. formula (get_or l i 0)))
all_every formula l true h =
    sym (yes_every (length l) (λ i. holds (formula (get_or l i 0))) (λ k b. h k 0 (omega arith) b))
all_every formula l false h =
    sym (fails (every_below (length l) (λ i. formula (get_or l i 0))) (λ m. denies (formula (get_or l h.0 0)) (h.2 0) (m h.0 h.1)))
