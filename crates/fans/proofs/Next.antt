-- The next edge up in a list of edges of one fan: e itself where none is above it, or else the nearest above it.
use mathlib.Core.Path.{◌≡◌, refl, subst}
use mathlib.Core.Bool.{Bool, true, false}
use mathlib.Core.List.{List, [], ◌∷◌}
use mathlib.Core.Logic.{◌⊎◌, inl, inr, ⊎_elim}
use Prim.Native.Nat.{ℕ, zero, suc, suc-le-suc}
use native.Mathlib.Nat.{zero-lt-suc, not-suc-le-zero, le_of_suc-le-suc}
use lib.Dec.{eqb}
use lib.IntN.{ℤ}
use lib.ListN.{length}
use borrow.Author.Tests.{eqb-true, eqb-false}
use Rattle.theory.proofs.Decide.{not_both}
use Rattle.theory.proofs.FanOrder.{StrictOrder}
use Rattle.fans.specs.Fans.{is_under, nearer, next_from, next_in}
use Rattle.fans.proofs.Under.{Reads}
use Rattle.fans.proofs.Furthest.{Each}

-- r is e itself, or one of the set above it
abbrev pub UpFrom : (ℕ → Type 0) → (ℕ → ℕ → Type 0) → ℕ → ℕ → Type 0
UpFrom Among Under e r = Among r × ((r ≡ e) ⊎ Under e r)

-- f is above e, and r is not, or is above f
abbrev pub NearerUp : (ℕ → ℕ → Type 0) → ℕ → ℕ → ℕ → Type 0
NearerUp Under e r f = Under e f × ((r ≡ e) ⊎ Under f r)

module _ (vertices : List ℤ) (edges : List ℕ) (eastern : Bool) (Among : ℕ → Type 0) (Under : ℕ → ℕ → Type 0) (o : StrictOrder Among Under) (reads : Reads Among Under (is_under vertices edges eastern)) (e : ℕ) (start : Among e) where
  not_nearer_itself : (r : ℕ) → NearerUp Under e r r → ⊥
  not_nearer_itself r (u, inl i) = o.irreflexive e (subst (λ (k : ℕ). Under e k) i u)
  not_nearer_itself r (u, inr v) = o.irreflexive r v

  -- where f is not nearer than n, nor n than r, f is not nearer than r
  not_nearer_trans : (r n f : ℕ) → UpFrom Among Under e r → UpFrom Among Under e n → Among f → (NearerUp Under e n f → ⊥) → (NearerUp Under e r n → ⊥) → NearerUp Under e r f → ⊥
  not_nearer_trans r n f p q a k m (u, w) = ⊎_elim (λ i. k (u, inl i)) above q.1
    where
      above : Under e n → ⊥
      above v = ⊎_elim (λ i. m (v, inl i)) (o.at_most r n f p.0 q.0 a (λ l. m (v, inr l)) (λ l. k (u, inr l))) w

  nearer_found : (best f : ℕ) → UpFrom Among Under e best → Among f
      → let n : ℕ = nearer vertices edges eastern e best f in UpFrom Among Under e n × (NearerUp Under e n f → ⊥) × (NearerUp Under e n best → ⊥)
  nearer_found best f p a = go (is_under vertices edges eastern e f) (eqb best e) (is_under vertices edges eastern f best) refl refl refl
    where
      go : (t u v : Bool) → is_under vertices edges eastern e f ≡ t → eqb best e ≡ u → is_under vertices edges eastern f best ≡ v
          → let n : ℕ = elim t [ false ↦ best | true ↦ elim u [ true ↦ f | false ↦ elim v [ true ↦ f | false ↦ best ] ] ] in
          UpFrom Among Under e n × (NearerUp Under e n f → ⊥) × (NearerUp Under e n best → ⊥)
      go false u v i j k = (p, λ m. not_both ((reads e f start a).1 m.0) i, not_nearer_itself best)
      go true true v i j k =
          ((a, inr ((reads e f start a).0 i)), not_nearer_itself f, λ m. o.irreflexive e (subst (λ (k : ℕ). Under e k) (eqb-true best e j) m.0))
      go true false true i j k = ((a, inr l), not_nearer_itself f, λ m. ⊎_elim same between m.1)
        where
          l : Under e f
          l = (reads e f start a).0 i

          same : f ≡ e → ⊥
          same q = o.irreflexive e (subst (λ (k : ℕ). Under e k) q l)

          between : Under best f → ⊥
          between m = o.irreflexive f (o.transitive f best f a p.0 a ((reads f best a p.0).0 k) m)
      go true false false i j k =
          (p, λ m. ⊎_elim (eqb-false best e j) (λ l. not_both ((reads f best a p.0).1 l) k) m.1, not_nearer_itself best)

  next_from_lem : (l : List ℕ) (best : ℕ) → UpFrom Among Under e best → Each Among l
      → let r : ℕ = next_from vertices edges eastern e best l in UpFrom Among Under e r × (NearerUp Under e r best → ⊥) × Each (λ f. NearerUp Under e r f → ⊥) l
  next_from_lem [] best p b = (p, not_nearer_itself best, λ i h. absurd (not-suc-le-zero h))
  next_from_lem (f ∷ fs) best p b = go (nearer_found best f p first) (next_from_lem fs (nearer vertices edges eastern e best f) (nearer_found best f p first).0 (λ i h. b (suc i) (suc-le-suc h)))
    where
      first : Among f
      first = b zero (zero-lt-suc (length fs))

      go : {n r : ℕ} → UpFrom Among Under e n × (NearerUp Under e n f → ⊥) × (NearerUp Under e n best → ⊥) → UpFrom Among Under e r × (NearerUp Under e r n → ⊥) × Each (λ f. NearerUp Under e r f → ⊥) fs
          → UpFrom Among Under e r × (NearerUp Under e r best → ⊥) × Each (λ f. NearerUp Under e r f → ⊥) (f ∷ fs)
      go {n} {r} q z = (z.0, not_nearer_trans r n best z.0 q.0 p.0 q.2 z.1, each)
        where
          each : Each (λ f. NearerUp Under e r f → ⊥) (f ∷ fs)
          each zero h = not_nearer_trans r n f z.0 q.0 first q.1 z.1
          each (suc i) h = z.2 i (le_of_suc-le-suc h)

  -- the next edge up is e itself or an edge above it, and none of the fan is nearer
  pub next_nearest : (fan : List ℕ) → Each Among fan
      → UpFrom Among Under e (next_in vertices edges eastern fan e) × Each (λ f. NearerUp Under e (next_in vertices edges eastern fan e) f → ⊥) fan
  next_nearest fan b = let r = next_from_lem fan e (start, inl refl) b in (r.0, r.2)
