-- The descent over any words of an index ends damaged exactly where it comes to a fault; otherwise it ends with an answer.
use mathlib.Core.Path.{◌≡◌, refl, sym, ap, ◌∙◌}
use mathlib.Core.Bool.{Bool, true, false, not, false≢true}
use mathlib.Core.List.{List}
use mathlib.Core.Logic.{◌⊎◌, inl, inr, ⊎_elim, by_cases, ◌↔◌}
use Prim.Native.Nat.{ℕ, zero, suc, ◌*◌, ◌<◌, ◌≤◌}
use native.Mathlib.Decide.{dec_lt}
use native.Mathlib.Omega.{arith}
use borrow.Author.Tests.{lt-ltb, le-ltb, le-leb, lt-leb}
use Rattle.subdivision.specs.Results.{covered}
use Rattle.subdivision.specs.declared.Answer.{Answer}
use Rattle.subdivision.specs.declared.Answer.TheVariants.{Zone}
use Rattle.subdivision.specs.declared.Probed.{Probed}
use Rattle.std.specs.Prelude.{Option, Some, None}
use Rattle.subdivision.specs.declared.Side.{Side}
use Rattle.subdivision.specs.declared.Side.TheVariants.{Below, On, Above}
use Rattle.subdivision.specs.Formula.{Formula, is_less, is_at_most, holds, Means}
use Rattle.subdivision.specs.Dyadic.{left_son, right_son}
use Rattle.subdivision.specs.Sheet.{Sheet, zone_count, above_of, below_of, segment}
use Rattle.subdivision.specs.Lines.{side_at}
use Rattle.subdivision.specs.Descent.{LookUps, Descent, Turn, onward, answered, damaged, breaks, start, starts_sound, places_sound, probe_chain, to_chain, past, examined, examine, arrived, turn, turns, descent, index_look_ups, index_descent}
use Rattle.subdivision.specs.Damage.{Reached, begun, turned, Opens, Finds, FaultAt, start_at_fault, entry_at_fault, run_out, place_at_fault, passing, zone_at_fault, ComesToFault}
use Rattle.theory.proofs.Decide.{means, held, denies, fails}
use Rattle.theory.proofs.Descents.{Sound, turns_left, left_some, turn_sound, turn_falls, leads, Rest, start_rest, rest_onward, rest_ends}
use Rattle.theory.proofs.ProbeFaults.{Misses, Gives, chain_gives, chain_misses, chain_finds}
use Rattle.theory.proofs.Turns.{sided}

module _ (s : Sheet) (index : List ℕ) (x y : ℕ) where
  -- the words of the index as look-ups
  abbrev w : LookUps
  w = index_look_ups s index

  -- ---- what is judged

  -- a turn that goes on where what is judged is kept
  abbrev unless : Formula → Turn → Turn
  unless f t = elim (breaks w f) [ true ↦ damaged | false ↦ t ]

  goes_on : (f : Formula) (t : Turn) → Means f → unless f t ≡ t
  goes_on f t m = rw (ap not (held f m), unless)

  ends : (f : Formula) (t : Turn) → (Means f → ⊥) → unless f t ≡ damaged
  ends f t n = rw (ap not (fails f n), unless)

  broken_or_later : (f : Formula) (t : Turn) → unless f t ≡ damaged → (Means f → ⊥) ⊎ (Means f × (t ≡ damaged))
  broken_or_later f t h = go (holds f) refl h
    where
      go : (b : Bool) → holds f ≡ b → ◌≡◌ {A = Turn} (elim (not b) [ true ↦ damaged | false ↦ t ]) damaged
          → (Means f → ⊥) ⊎ (Means f × (t ≡ damaged))
      go true e m = inr (means f e, m)
      go false e m = inl (denies f e)

  -- ---- one turn, by where k is

  turn_arrives : (d : Descent) → d.j ≤ d.i → turn s w x y d ≡ arrived s w x y d
  turn_arrives d h = rw (le-ltb d.i d.j h, turn)

  turn_examines : (d : Descent) → d.i < d.k → d.k ≤ d.j → turn s w x y d ≡ examine s w x y d
  turn_examines d l u =
      rw (lt-ltb d.i d.j (omega arith), le-ltb d.j d.k u, lt-leb d.k d.i l, turn)

  turn_aside : (d : Descent) → d.i < d.j → (d.j < d.k) ⊎ (d.k ≤ d.i) → (k : ℕ) × (turn s w x y d ≡ onward (to_chain d k))
  turn_aside d h (inl l) = (left_son d.k, rw (lt-ltb d.i d.j h, lt-ltb d.j d.k l, turn))
  turn_aside d h (inr r) =
      (right_son d.k, rw (lt-ltb d.i d.j h, le-ltb d.j d.k (omega arith), le-leb d.k d.i r, turn))

  -- an examination by what the probes give
  abbrev given : Descent → Option Probed → Turn
  given d p = elim p [ Some c ↦ examined s w x y d c.edge c.probes | None ↦ damaged ]

  -- ---- a fault ends the turn damaged

  opened : (d : Descent) → Opens s index x y d → turn s w x y d ≡ given d (probe_chain s w x d.k d.probes)
  opened d o =
      turn_examines d o.0.0 o.0.1
      ∙ goes_on (starts_sound s w d.k) (given d (probe_chain s w x d.k d.probes)) o.1

  missed : (d : Descent) → Opens s index x y d → Misses s index x y d.k → turn s w x y d ≡ damaged
  missed d o m = opened d o ∙ ap (given d) (chain_misses s index x y d.k d.probes m)

  found : (d : Descent) (e : ℕ) → Opens s index x y d → Finds s index x y d.k e → (q : ℕ) × (turn s w x y d ≡ examined s w x y d e q)
  found d e o f =
      let p = chain_finds s index x y d.k d.probes e f in (p.0, opened d o ∙ ap (given d) p.1)

  fault_damages : (d : Descent) → FaultAt s index x y d → turn s w x y d ≡ damaged
  fault_damages d (start_at_fault l u n) =
      turn_examines d l u ∙ ends (starts_sound s w d.k) (given d (probe_chain s w x d.k d.probes)) n
  fault_damages d (entry_at_fault lo hi o left some n) = missed d o (lo, hi, left, inl (some, n))
  fault_damages d (run_out lo hi o left none) = missed d o (lo, hi, left, inr none)
  fault_damages d (place_at_fault e o f n) =
      let t = found d e o f in t.1 ∙ ends (places_sound s w d.k e) (sided s w x y d e t.0 (side_at (segment s e) x y)) n
  fault_damages d (passing e o f m over) =
      let t = found d e o f in
      t.1 ∙ (goes_on (places_sound s w d.k e) (sided s w x y d e t.0 (side_at (segment s e) x y)) m ∙ go t.0 over)
    where
      go : (q : ℕ) → ((side_at (segment s e) x y ≡ Above) × (d.j < w.place (above_of s e))) ⊎ ((side_at (segment s e) x y ≡ Below) × (w.place (below_of s e) < d.i))
          → sided s w x y d e q (side_at (segment s e) x y) ≡ damaged
      go q (inl (side, h)) =
          ap (sided s w x y d e q) side
          ∙ ends (is_at_most (w.place (above_of s e)) d.j) (onward (past d e q (w.place (above_of s e)) d.j)) (λ m. omega arith)
      go q (inr (side, h)) =
          ap (sided s w x y d e q) side
          ∙ ends (is_at_most d.i (w.place (below_of s e))) (onward (past d e q d.i (w.place (below_of s e)))) (λ m. omega arith)
  fault_damages d (zone_at_fault h z) =
      turn_arrives d h ∙ ends (is_less (w.zone d.i) (zone_count s)) (answered (Zone (w.zone d.i)) d) (λ m. omega arith)

  -- ---- a turn that ends damaged comes from a fault

  side_fault : (d : Descent) (e q : ℕ) → Opens s index x y d → Finds s index x y d.k e → Means (places_sound s w d.k e)
      → (g : Side) → side_at (segment s e) x y ≡ g → sided s w x y d e q g ≡ damaged → FaultAt s index x y d
  side_fault d e q o f m On side h = absurd (false≢true cc)
  side_fault d e q o f m Above side h =
      go (broken_or_later (is_at_most (w.place (above_of s e)) d.j) (onward (past d e q (w.place (above_of s e)) d.j)) h)
    where
      go : (w.place (above_of s e) ≤ d.j → ⊥) ⊎ ((w.place (above_of s e) ≤ d.j) × (onward (past d e q (w.place (above_of s e)) d.j) ≡ damaged))
          → FaultAt s index x y d
      go (inl n) = passing e o f m (inl (side, omega (arith, n)))
      go (inr (l, c)) = absurd (false≢true cc)
  side_fault d e q o f m Below side h =
      go (broken_or_later (is_at_most d.i (w.place (below_of s e))) (onward (past d e q d.i (w.place (below_of s e)))) h)
    where
      go : (d.i ≤ w.place (below_of s e) → ⊥) ⊎ ((d.i ≤ w.place (below_of s e)) × (onward (past d e q d.i (w.place (below_of s e))) ≡ damaged))
          → FaultAt s index x y d
      go (inl n) = passing e o f m (inr (side, omega (arith, n)))
      go (inr (l, c)) = absurd (false≢true cc)

  given_fault : (d : Descent) → Opens s index x y d → (p : Option Probed) → Gives s index x y d.k p → given d p ≡ damaged → FaultAt s index x y d
  given_fault d o (Some p) f h =
      ⊎_elim (λ n. place_at_fault p.edge o f n) (λ m. side_fault d p.edge p.probes o f m.0 (side_at (segment s p.edge) x y) refl m.1)
      (broken_or_later (places_sound s w d.k p.edge) (sided s w x y d p.edge p.probes (side_at (segment s p.edge) x y)) h)
  given_fault d o None (lo, hi, left, inl (some, n)) h = entry_at_fault lo hi o left some n
  given_fault d o None (lo, hi, left, inr none) h = run_out lo hi o left none

  examine_fault : (d : Descent) → d.i < d.k → d.k ≤ d.j → examine s w x y d ≡ damaged → FaultAt s index x y d
  examine_fault d l u h =
      ⊎_elim (λ n. start_at_fault l u n)
      (λ m. given_fault d ((l, u), m.0) (probe_chain s w x d.k d.probes) (chain_gives s index x y d.k d.probes) m.1)
      (broken_or_later (starts_sound s w d.k) (given d (probe_chain s w x d.k d.probes)) h)

  arrived_fault : (d : Descent) → d.j ≤ d.i → arrived s w x y d ≡ damaged → FaultAt s index x y d
  arrived_fault d l h = go (broken_or_later (is_less (w.zone d.i) (zone_count s)) (answered (Zone (w.zone d.i)) d) h)
    where
      go : (w.zone d.i < zone_count s → ⊥) ⊎ ((w.zone d.i < zone_count s) × (answered (Zone (w.zone d.i)) d ≡ damaged))
          → FaultAt s index x y d
      go (inl n) = zone_at_fault l (omega (arith, n))
      go (inr (m, c)) = absurd (false≢true cc)

  damage_faults : (d : Descent) → turn s w x y d ≡ damaged → FaultAt s index x y d
  damage_faults d h =
      by_cases (dec_lt d.i d.j)
      (λ (l : d.i < d.j). by_cases (dec_lt d.j d.k) (λ m. aside l (inl m)) (λ n. by_cases (dec_lt d.i d.k) (λ (m : d.i < d.k). let u : d.k ≤ d.j = omega (arith, n) in examine_fault d m u (sym (turn_examines d m u) ∙ h)) (λ m. aside l (inr (omega (arith, m))))))
      (λ n. let l : d.j ≤ d.i = omega (arith, n) in arrived_fault d l (sym (turn_arrives d l) ∙ h))
    where
      aside : d.i < d.j → (d.j < d.k) ⊎ (d.k ≤ d.i) → FaultAt s index x y d
      aside l m = let t = sym (turn_aside d l m).1 ∙ h in absurd (false≢true cc)

  -- ---- the descent

  reached_rest : 1 ≤ zone_count s → (d : Descent) → Reached s index x y d → Rest s index x y d
  reached_rest n d begun = start_rest s index x y n
  reached_rest n d (turned before next r e) = rest_onward s index x y before next (reached_rest n before r) e

  damaged_comes : (fuel : ℕ) (d : Descent) → Reached s index x y d → Sound s d → turns_left d ≤ fuel → turns s w x y fuel d ≡ damaged
      → ComesToFault s index x y
  damaged_comes zero d r h l e = absurd (omega (arith, left_some s d h))
  damaged_comes (suc fuel) d r h l e = go (turn s w x y d) refl e (damaged_comes fuel)
    where
      go : (t : Turn) → turn s w x y d ≡ t → leads s index x y fuel t ≡ damaged
          → ((next : Descent) → Reached s index x y next → Sound s next → turns_left next ≤ fuel → turns s w x y fuel next ≡ damaged → ComesToFault s index x y)
          → ComesToFault s index x y
      go (onward next) p m rest =
          rest next (turned d next r p) (turn_sound s index x y d next h p) (omega (arith, turn_falls s index x y d next h p)) m
      go (answered a last) p m rest = absurd (false≢true cc)
      go damaged p m rest = (d, r, damage_faults d p)

  -- the descent over the words of an index ends damaged exactly where it comes to a fault
  pub damaged_exactly : 1 ≤ zone_count s → (index_descent s index x y ≡ damaged) ↔ ComesToFault s index x y
  damaged_exactly n = (comes, ended)
    where
      comes : index_descent s index x y ≡ damaged → ComesToFault s index x y
      comes e =
          let r = start_rest s index x y n in
          damaged_comes r.fuel (start s) begun r.sound r.enough (sym r.same ∙ e)

      ended : ComesToFault s index x y → index_descent s index x y ≡ damaged
      ended (d, r, f) = rest_ends s index x y d damaged (λ fuel. refl) (reached_rest n d r) (fault_damages d f)

  -- a turn that ends a descent: with an answer, or damaged
  abbrev Ended : Turn → Type 0
  Ended t = ((a : Answer) × (d : Descent) × (t ≡ answered a d)) ⊎ (t ≡ damaged)

  turns_end : (fuel : ℕ) (d : Descent) → Ended (turns s w x y fuel d)
  turns_end zero d = inr refl
  turns_end (suc fuel) d = go (turn s w x y d) (turns_end fuel)
    where
      go : (t : Turn) → ((next : Descent) → Ended (turns s w x y fuel next)) → Ended (leads s index x y fuel t)
      go (onward next) rest = rest next
      go (answered a last) rest = inl (a, last, refl)
      go damaged rest = inr refl

  -- it ends with an answer, or damaged
  pub answered_or_damaged : ((a : Answer) × (d : Descent) × (index_descent s index x y ≡ answered a d)) ⊎ (index_descent s index x y ≡ damaged)
  unfolding index_descent descent
  answered_or_damaged = turns_end (2 * zone_count s) (start s)
