-- The turns of a descent over any look-ups, read backwards: what a turn found where it goes onward, and where it answers.
use mathlib.Core.Path.{◌≡◌, refl, subst, ◌∙◌}
use mathlib.Core.Bool.{Bool, true, false, not, false≢true}
use Prim.Native.Nat.{ℕ, zero, suc, ◌<◌, ◌≤◌}
use lib.Dec.{leb, ltb}
use borrow.Author.Tests.{ltb-true, ltb-false, leb-true, leb-false}
use Rattle.subdivision.specs.Results.{covered}
use Rattle.subdivision.specs.declared.Answer.{Answer}
use Rattle.subdivision.specs.declared.Answer.TheVariants.{Zone}
use Rattle.subdivision.specs.declared.Probed.{Probed}
use Rattle.std.specs.Prelude.{Option, Some, None}
use Rattle.subdivision.specs.declared.Side.{Side}
use Rattle.subdivision.specs.declared.Side.TheVariants.{Below, On, Above}
use Rattle.subdivision.specs.Formula.{Formula, is_less, is_at_most, holds, Means}
use Rattle.subdivision.specs.Dyadic.{left_son, right_son}
use Rattle.subdivision.specs.Sheet.{Sheet, zone_count, above_of, below_of, segment}
use Rattle.subdivision.specs.Lines.{side_at}
use Rattle.subdivision.specs.Descent.{LookUps, Descent, Turn, onward, answered, damaged, breaks, starts_sound, places_sound, probe_chain, on_edge, to_chain, past, stepped, examined, examine, arrived, turn, turns}
use Rattle.theory.proofs.Decide.{means}

-- what is judged is kept
abbrev pub Judged : LookUps → Formula → Type 0
Judged w f = w.judging ≡ true → Means f

-- where a turn is not damaged, what it judged is kept
undamaged : (w : LookUps) (f : Formula) (t r : Turn) → (damaged ≡ r → ⊥)
    → ◌≡◌ {A = Turn} (elim (breaks w f) [ true ↦ damaged | false ↦ t ]) r → Judged w f × (t ≡ r)
undamaged w f t r n h = go w.judging h
  where
    judged : (b : Bool) → holds f ≡ b → ◌≡◌ {A = Turn} (elim (not b) [ true ↦ damaged | false ↦ t ]) r → Means f × (t ≡ r)
    judged true e m = (means f e, m)
    judged false e m = absurd (n m)

    go : (b : Bool) → ◌≡◌ {A = Turn} (elim (elim b as (λ _. Bool) [ true ↦ not (holds f) | false ↦ false ]) [ true ↦ damaged | false ↦ t ]) r
        → (b ≡ true → Means f) × (t ≡ r)
    go true m = (λ j. (judged (holds f) refl m).0, (judged (holds f) refl m).1)
    go false m = (λ j. absurd (false≢true j), m)

module _ (s : Sheet) (w : LookUps) (x y : ℕ) where
  -- edge e of the chain k is examined, with q probes so far
  pub record Examines (d : Descent) (e q : ℕ) : Type 0 where
    pub lower : d.i < d.k
    pub upper : d.k ≤ d.j
    pub starts : Judged w (starts_sound s w d.k)
    pub probed : probe_chain s w x d.k d.probes ≡ covered e q
    pub places : Judged w (places_sound s w d.k e)

  -- what a turn found that goes onward
  pub data Onward (d next : Descent) : Type 0 where
    leftward : d.i < d.j → d.j < d.k → next ≡ to_chain d (left_son d.k) → Onward d next
    rightward : d.i < d.j → d.k ≤ d.i → next ≡ to_chain d (right_son d.k) → Onward d next
    above : (e q : ℕ) → Examines d e q → side_at (segment s e) x y ≡ Above → Judged w (is_at_most (w.place (above_of s e)) d.j)
        → next ≡ past d e q (w.place (above_of s e)) d.j → Onward d next
    below : (e q : ℕ) → Examines d e q → side_at (segment s e) x y ≡ Below → Judged w (is_at_most d.i (w.place (below_of s e)))
        → next ≡ past d e q d.i (w.place (below_of s e)) → Onward d next

  -- what a turn found that answers
  pub data Answers (d last : Descent) (a : Answer) : Type 0 where
    arrival : d.j ≤ d.i → Judged w (is_less (w.zone d.i) (zone_count s)) → a ≡ Zone (w.zone d.i) → last ≡ d → Answers d last a
    landing : (e q : ℕ) → Examines d e q → side_at (segment s e) x y ≡ On → a ≡ on_edge s x y e → last ≡ past d e q d.i d.j → Answers d last a

  -- a turn by its three tests
  abbrev chosen : Descent → Bool → Bool → Bool → Turn
  chosen d apart left right =
      elim apart [
        | false ↦ arrived s w x y d
        | true ↦
            elim left [
              | true ↦ onward (to_chain d (left_son d.k))
              | false ↦
                  elim right [ true ↦ onward (to_chain d (right_son d.k)) | false ↦ examine s w x y d ]
            ]
      ]

  -- an examined edge by its side
  abbrev pub sided : Descent → ℕ → ℕ → Side → Turn
  sided d e q side =
      elim side [
        | On ↦ answered (on_edge s x y e) (past d e q d.i d.j)
        | Above ↦ stepped w (past d e q (w.place (above_of s e)) d.j)
        | Below ↦ stepped w (past d e q d.i (w.place (below_of s e)))
      ]

  -- an examination that is not damaged finds an edge
  examine_finds : (d : Descent) (r : Turn) → d.i < d.k → d.k ≤ d.j → (damaged ≡ r → ⊥) → examine s w x y d ≡ r
      → (e : ℕ) × (q : ℕ) × Examines d e q × (sided d e q (side_at (segment s e) x y) ≡ r)
  examine_finds d r l u n h =
      let p = undamaged w (starts_sound s w d.k) (at (probe_chain s w x d.k d.probes)) r n h in
      go (probe_chain s w x d.k d.probes) refl p.0 p.1
    where
      at : Option Probed → Turn
      at p = elim p [ Some c ↦ examined s w x y d c.edge c.probes | None ↦ damaged ]

      go : (p : Option Probed) → probe_chain s w x d.k d.probes ≡ p
          → Judged w (starts_sound s w d.k) → at p ≡ r
          → (e : ℕ) × (q : ℕ) × Examines d e q × (sided d e q (side_at (segment s e) x y) ≡ r)
      go (Some f) c k m =
          let p = undamaged w (places_sound s w d.k f.edge) (sided d f.edge f.probes (side_at (segment s f.edge) x y)) r n m in
          (f.edge, f.probes, record { lower = l; upper = u; starts = k; probed = c; places = p.0 }, p.1)
      go None c k m = absurd (n m)

  -- what a turn found, by what it leads to
  abbrev LedTo : Descent → Turn → Type 0
  LedTo d (onward next) = Onward d next
  LedTo d (answered a last) = Answers d last a
  LedTo d damaged = Unit {0}

  turn_leads : (d : Descent) (r : Turn) → (damaged ≡ r → ⊥) → turn s w x y d ≡ r → LedTo d r
  turn_leads d r n h = go (ltb d.i d.j) (ltb d.j d.k) (leb d.k d.i) refl refl refl h
    where
      side : (e q : ℕ) → Examines d e q → (t : Side) → side_at (segment s e) x y ≡ t → sided d e q t ≡ r → LedTo d r
      side e q f On c m = subst (LedTo d) m (landing e q f c refl refl)
      side e q f Above c m =
          let p = undamaged w (is_at_most (w.place (above_of s e)) d.j) (onward (past d e q (w.place (above_of s e)) d.j)) r n m in
          subst (LedTo d) p.1 (above e q f c p.0 refl)
      side e q f Below c m =
          let p = undamaged w (is_at_most d.i (w.place (below_of s e))) (onward (past d e q d.i (w.place (below_of s e)))) r n m in
          subst (LedTo d) p.1 (below e q f c p.0 refl)

      go : (a b c : Bool) → ltb d.i d.j ≡ a → ltb d.j d.k ≡ b → leb d.k d.i ≡ c → chosen d a b c ≡ r → LedTo d r
      go false b c p q o m =
          let z = undamaged w (is_less (w.zone d.i) (zone_count s)) (answered (Zone (w.zone d.i)) d) r n m in
          subst (LedTo d) z.1 (arrival (ltb-false d.i d.j p) z.0 refl refl)
      go true true c p q o m = subst (LedTo d) m (leftward (ltb-true d.i d.j p) (ltb-true d.j d.k q) refl)
      go true false true p q o m = subst (LedTo d) m (rightward (ltb-true d.i d.j p) (leb-true d.k d.i o) refl)
      go true false false p q o m =
          let f = examine_finds d r (leb-false d.k d.i o) (ltb-false d.j d.k q) n m in
          side f.0 f.1 f.2 (side_at (segment s f.0) x y) refl f.3

  -- a turn that goes onward was one of four
  pub turn_onward : (d next : Descent) → turn s w x y d ≡ onward next → Onward d next
  turn_onward d next h = turn_leads d (onward next) (λ e. false≢true cc) h

  -- a turn that answers was one of two
  pub turn_answered : (d last : Descent) (a : Answer) → turn s w x y d ≡ answered a last → Answers d last a
  turn_answered d last a h = turn_leads d (answered a last) (λ e. false≢true cc) h

  -- turns that end with an answer come to a state whose turn answers so; what every turn onward keeps holds there
  pub turns_answered : (Kept : Descent → Type 0) → ((d next : Descent) → Kept d → turn s w x y d ≡ onward next → Kept next)
      → (fuel : ℕ) (d last : Descent) (a : Answer) → Kept d → turns s w x y fuel d ≡ answered a last
      → (before : Descent) × Kept before × (turn s w x y before ≡ answered a last)
  turns_answered Kept keeps zero d last a h e = absurd (false≢true cc)
  turns_answered Kept keeps (suc fuel) d last a h e = go (turn s w x y d) refl e (λ next. turns_answered Kept keeps fuel next last a)
    where
      go : (t : Turn) → turn s w x y d ≡ t
          → ◌≡◌ {A = Turn} (elim t [ onward next ↦ turns s w x y fuel next | answered b end ↦ answered b end | damaged ↦ damaged ]) (answered a last)
          → ((next : Descent) → Kept next → turns s w x y fuel next ≡ answered a last → (before : Descent) × Kept before × (turn s w x y before ≡ answered a last))
          → (before : Descent) × Kept before × (turn s w x y before ≡ answered a last)
      go (onward next) p m rest = rest next (keeps d next h p) m
      go (answered b end) p m rest = (d, h, p ∙ m)
      go damaged p m rest = absurd (false≢true cc)
