-- The furthest edge up or down a list of edges of one fan is the top or the bottom of them.
use mathlib.Core.Path.{◌≡◌, refl}
use mathlib.Core.Bool.{Bool, true, false}
use mathlib.Core.List.{List, [], ◌∷◌}
use Prim.Native.Nat.{ℕ, zero, suc, ◌<◌, suc-le-suc}
use native.Mathlib.Nat.{zero-lt-suc, not-suc-le-zero, le_of_suc-le-suc}
use lib.IntN.{ℤ}
use lib.ListN.{length, get_or}
use Rattle.theory.proofs.Decide.{not_both}
use Rattle.theory.proofs.FanOrder.{StrictOrder}
use Rattle.fans.specs.Fans.{goes_on, furthest_from, furthest}
use Rattle.fans.proofs.Under.{Reads}

-- every entry of the list is in the set
abbrev pub Each : (ℕ → Type 0) → List ℕ → Type 0
Each Among l = (i : ℕ) → i < length l → Among (get_or l i 0)

module _ (vertices : List ℤ) (edges : List ℕ) (eastern up : Bool) (Among : ℕ → Type 0) (On : ℕ → ℕ → Type 0) (o : StrictOrder Among On) (reads : Reads Among On (goes_on vertices edges eastern up)) where
  -- r is in the set, and neither the start nor an entry of the list goes on from it
  abbrev Last : ℕ → List ℕ → ℕ → Type 0
  Last start l r = Among r × (On r start → ⊥) × Each (λ e. On r e → ⊥) l

  last_from : (start : ℕ) (l : List ℕ) → Among start → Each Among l → Last start l (furthest_from vertices edges eastern up start l)
  last_from start [] a b = (a, o.irreflexive start, λ i h. absurd (not-suc-le-zero h))
  last_from start (e ∷ es) a b =
      go (goes_on vertices edges eastern up start e) refl (last_from e es first rest) (last_from start es a rest)
    where
      first : Among e
      first = b zero (zero-lt-suc (length es))

      rest : Each Among es
      rest i h = b (suc i) (suc-le-suc h)

      both : {r : ℕ} → Among r → (On r start → ⊥) → (On r e → ⊥) → Each (λ f. On r f → ⊥) es → Last start (e ∷ es) r
      both {r} p k m n = (p, k, each)
        where
          each : Each (λ f. On r f → ⊥) (e ∷ es)
          each zero h = m
          each (suc i) h = n i (le_of_suc-le-suc h)

      go : (t : Bool) → goes_on vertices edges eastern up start e ≡ t → Last e es (furthest_from vertices edges eastern up e es) → Last start es (furthest_from vertices edges eastern up start es)
          → Last start (e ∷ es) (elim t [ true ↦ furthest_from vertices edges eastern up e es | false ↦ furthest_from vertices edges eastern up start es ])
      go true t p q = both p.0 (λ l. p.1 (o.transitive _ start e p.0 a first l ((reads start e a first).0 t))) p.1 p.2
      go false t p q = both q.0 q.1 (o.at_most e start _ first a q.0 (λ l. not_both ((reads start e a first).1 l) t) q.1) q.2

  -- the furthest edge of a fan that has edges is in the set, and none of the fan goes on from it
  pub furthest_last : (fan : List ℕ) → 0 < length fan → Each Among fan
      → Among (furthest vertices edges eastern up fan) × Each (λ e. On (furthest vertices edges eastern up fan) e → ⊥) fan
  furthest_last fan h b = let r = last_from (get_or fan 0 0) fan (b 0 h) b in (r.0, r.2)
