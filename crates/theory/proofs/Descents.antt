-- A descent over any words of an index: it stays in its blocks, its counts are bounded, and it ends.
use mathlib.Core.Path.{◌≡◌, refl, sym, ap, ◌∙◌, subst}
use mathlib.Core.Bool.{true, false}
use mathlib.Core.List.{List}
use mathlib.Core.Logic.{◌⊎◌, inl, inr, ⊎_elim, by_cases}
use Prim.Native.Nat.{ℕ, zero, suc, ◌+◌, ◌-◌, ◌*◌, ◌<◌, ◌≤◌, zero-le}
use native.Mathlib.Nat.{le_refl, le_trans, suc-add, mul-le-mul_right}
use native.Mathlib.Decide.{dec_lt}
use native.Mathlib.Omega.{arith}
use lib.Dec.{leb, ltb}
use lib.ListN.{length}
use borrow.Author.Tests.{lt-ltb, le-ltb, le-leb, lt-leb}
use Rattle.subdivision.specs.declared.Answer.{Answer}
use Rattle.subdivision.specs.Dyadic.{bits, top_bit, low_bit, left_son, right_son}
use Rattle.subdivision.specs.Sheet.{Sheet, edge_count, zone_count, above_of, below_of}
use Rattle.subdivision.specs.Descent.{LookUps, Descent, Turn, onward, answered, damaged, start, to_chain, past, turn, turns, index_look_ups, index_descent, descent}
use Rattle.theory.proofs.Blocks.{InBlock, left_block, right_block, top_block, low_bit_top, bits_top, bits_pos, bits_twice, bits_mono}
use Rattle.theory.proofs.Dyadic.{top_bit_le, top_bit_pos}
use Rattle.theory.proofs.Position.{length_snoc}
use Rattle.theory.proofs.Probes.{probe_found}
use Rattle.theory.proofs.Turns.{Examines, Onward, leftward, rightward, above, below, Answers, arrival, landing, turn_onward, turn_answered, turns_answered}

-- the turns that a descent has left at most
abbrev pub turns_left : Descent → ℕ
turns_left d =
    elim (ltb d.i d.j) [
      | false ↦ 1
      | true ↦
          elim (ltb d.j d.k) [
            | true ↦ 2 * low_bit d.k
            | false ↦
                elim (leb d.k d.i) [ true ↦ 2 * low_bit d.k | false ↦ 2 * low_bit d.k + 1 ]
          ]
    ]

left_arrived : (d : Descent) → d.j ≤ d.i → turns_left d ≡ 1
left_arrived d h = rw (le-ltb d.i d.j h, turns_left)

left_aside : (d : Descent) → d.i < d.j → (d.j < d.k) ⊎ (d.k ≤ d.i) → turns_left d ≡ 2 * low_bit d.k
left_aside d h (inl l) = rw (lt-ltb d.i d.j h, lt-ltb d.j d.k l, turns_left)
left_aside d h (inr r) =
    rw (lt-ltb d.i d.j h, le-ltb d.j d.k (omega arith), le-leb d.k d.i r, turns_left)

left_between : (d : Descent) → d.i < d.k → d.k ≤ d.j → turns_left d ≡ 2 * low_bit d.k + 1
left_between d l u =
    rw (lt-ltb d.i d.j (omega arith), le-ltb d.j d.k u, lt-leb d.k d.i l, turns_left)

left_about : (d : Descent) → d.i < d.j → (2 * low_bit d.k ≤ turns_left d) × (turns_left d ≤ 2 * low_bit d.k + 1)
left_about d h =
    by_cases (dec_lt d.j d.k) (λ l. rw (left_aside d h (inl l)) (omega arith, omega arith))
    (λ n. by_cases (dec_lt d.i d.k) (λ l. rw (left_between d l (omega (arith, n))) (omega arith, omega arith)) (λ m. rw (left_aside d h (inr (omega (arith, m)))) (omega arith, omega arith)))

module _ (s : Sheet) where
  -- what holds of the state of a descent over any words: i <= j < n, both in the block of k while i < j; each level of the tree is examined once at most;
  -- each examined chain was probed as often as the bits of m at most
  pub record Sound (d : Descent) : Type 0 where
    pub ordered : d.i ≤ d.j
    pub inside : d.j < zone_count s
    pub blocked : d.i < d.j → InBlock d.k d.i × InBlock d.k d.j
    pub counted : length d.trail ≤ bits (zone_count s - 1)
    pub levels : length d.trail + bits (low_bit d.k) ≤ suc (bits (zone_count s - 1))
    pub level : d.i < d.k → d.k ≤ d.j → length d.trail + bits (low_bit d.k) ≤ bits (zone_count s - 1)
    pub probed : d.probes ≤ length d.trail * bits (edge_count s)

  -- the counts of a descent are bounded: at most bits(n-1) edges, and for each at most bits(m) probes
  abbrev pub Bounded : Descent → Type 0
  Bounded d = (length d.trail ≤ bits (zone_count s - 1)) × (d.probes ≤ length d.trail * bits (edge_count s))

  pub start_sound : 1 ≤ zone_count s → Sound (start s)
  start_sound h =
      record {
        ordered = zero-le;
        inside = omega arith;
        blocked = λ l. (top_block (zone_count s - 1) 0 l zero-le, top_block (zone_count s - 1) (zone_count s - 1) l (le_refl (zone_count s - 1)));
        counted = zero-le;
        levels = omega (arith, top);
        level = λ l u. omega (arith, top);
        probed = zero-le;
      }
    where
      top : bits (low_bit (top_bit (zone_count s - 1))) ≡ bits (zone_count s - 1)
      top = rw (low_bit_top (zone_count s - 1)) (bits_top (zone_count s - 1))

  pub start_left : 1 ≤ zone_count s → turns_left (start s) ≤ 2 * zone_count s
  start_left h =
      by_cases (dec_lt 0 (zone_count s - 1))
      (λ l. rw (left_between (start s) (top_bit_pos (zone_count s - 1) l) (top_bit_le (zone_count s - 1)), low_bit_top (zone_count s - 1)) (omega (arith, top_bit_le (zone_count s - 1))))
      (λ n. rw (left_arrived (start s) (omega (arith, n))) (omega arith))

  -- where i < j the block of k is not empty
  low_bit_there : (d : Descent) → Sound d → d.i < d.j → 0 < low_bit d.k
  low_bit_there d h l = omega (arith, (h.blocked l).0.0, (h.blocked l).0.1)

  -- a sound descent has a turn left
  pub left_some : (d : Descent) → Sound d → 0 < turns_left d
  left_some d h =
      by_cases (dec_lt d.i d.j) (λ l. omega (arith, (left_about d l).0, low_bit_there d h l)) (λ n. rw (left_arrived d (omega (arith, n))) (le_refl 1))

  -- a turn that goes onward, as far as the counts are concerned: k goes to a son, or an edge of chain k puts i at or past k or j before k
  data Step (d next : Descent) : Type 0 where
    to_son : (k : ℕ) → d.i < d.j → (d.j < d.k) ⊎ (d.k ≤ d.i) → InBlock k d.i × InBlock k d.j → low_bit d.k ≡ 2 * low_bit k
        → next ≡ to_chain d k → Step d next
    to_edge : (e q i j : ℕ) → d.i < d.k → d.k ≤ d.j → d.i ≤ i → i ≤ j → j ≤ d.j → (j < d.k) ⊎ (d.k ≤ i) → q ≤ d.probes + bits (edge_count s)
        → next ≡ past d e q i j → Step d next

  -- the counts past an edge of chain k
  past_counts : (d : Descent) (e q i j : ℕ) → Sound d → d.i < d.k → d.k ≤ d.j → q ≤ d.probes + bits (edge_count s)
      → Bounded (past d e q i j)
  past_counts d e q i j h l u p =
      rw (length_snoc e d.trail)
      (omega (arith, h.level l u, bits_pos (low_bit d.k) (low_bit_there d h (omega arith))), omega (arith, h.probed))

  son_sound : (d : Descent) (k : ℕ) → Sound d → InBlock k d.i × InBlock k d.j → low_bit d.k ≡ 2 * low_bit k
      → Sound (to_chain d k)
  son_sound d k h b half =
      record { ordered = h.ordered; inside = h.inside; blocked = λ l. b; counted = h.counted; levels = omega (arith, low); level = λ l u. low; probed = h.probed }
    where
      low : length d.trail + bits (low_bit k) ≤ bits (zone_count s - 1)
      low = omega (arith, rw (half, bits_twice (low_bit k) (omega (arith, b.0.0, b.0.1))) at h.levels)

  past_sound : (d : Descent) (e q i j : ℕ) → Sound d → d.i < d.k → d.k ≤ d.j → d.i ≤ i → i ≤ j → j ≤ d.j → (j < d.k) ⊎ (d.k ≤ i)
      → q ≤ d.probes + bits (edge_count s) → Sound (past d e q i j)
  past_sound d e q i j h l u f o g side p =
      record {
        ordered = o;
        inside = omega (arith, h.inside);
        blocked = λ m. ((omega (arith, b.0.0), omega (arith, b.1.1)), (omega (arith, b.0.0), omega (arith, b.1.1)));
        counted = (past_counts d e q i j h l u p).0;
        levels = rw (length_snoc e d.trail) (omega (arith, h.level l u));
        level = λ m n. absurd (⊎_elim (λ c. omega arith) (λ c. omega arith) side);
        probed = (past_counts d e q i j h l u p).1;
      }
    where
      b : InBlock d.k d.i × InBlock d.k d.j
      b = h.blocked (omega arith)

  step_sound : (d next : Descent) → Sound d → Step d next → Sound next
  step_sound d next h (to_son k l side b half e) = subst Sound (sym e) (son_sound d k h b half)
  step_sound d next h (to_edge e q i j l u f o g side p n) = subst Sound (sym n) (past_sound d e q i j h l u f o g side p)

  step_falls : (d next : Descent) → Sound d → Step d next → turns_left next < turns_left d
  step_falls d next h (to_son k l side b half e) =
      rw (e, left_aside d l side)
      (omega (arith, half, b.0.0, b.0.1, (left_about (to_chain d k) l).1))
  step_falls d next h (to_edge e q i j l u f o g side p n) =
      rw (n, left_between d l u)
      (by_cases (dec_lt i j) (λ m. rw (left_aside (past d e q i j) m side) (omega arith)) (λ m. rw (left_arrived (past d e q i j) (omega (arith, m))) (omega (arith, low_bit_there d h (omega arith)))))

module _ (s : Sheet) (index : List ℕ) (x y : ℕ) where
  -- the words of the index as look-ups
  abbrev w : LookUps
  w = index_look_ups s index

  -- the probes of a chain are as many as the bits of m at most
  few_probes : (d : Descent) (e q : ℕ) → Examines s w x y d e q → q ≤ d.probes + bits (edge_count s)
  few_probes d e q f =
      omega (arith, (probe_found s w x (w.start (d.k + 1)) (w.start d.k) (w.start (d.k + 1)) d.probes e q f.probed).2.1.1, bits_mono (w.start (d.k + 1) - w.start d.k) (edge_count s) (omega (arith, (f.starts refl).0.1)))

  turn_step : (d next : Descent) → Sound s d → turn s w x y d ≡ onward next → Step s d next
  turn_step d next h e = go (turn_onward s w x y d next e)
    where
      go : Onward s w x y d next → Step s d next
      go (leftward l m n) =
          let b = left_block d.k d.i d.j l m (h.blocked l).0 (h.blocked l).1 in
          to_son (left_son d.k) l (inl m) b.0 b.1 n
      go (rightward l m n) =
          let b = right_block d.k d.i d.j l m (h.blocked l).0 (h.blocked l).1 in
          to_son (right_son d.k) l (inr m) b.0 b.1 n
      go (above e q f c o n) =
          let p = (f.places refl).1.1 in
          to_edge e q (w.place (above_of s e)) d.j f.lower f.upper (omega (arith, p, f.lower)) (o refl) (le_refl d.j) (inr p) (few_probes d e q f) n
      go (below e q f c o n) =
          let p = (f.places refl).1.0 in
          to_edge e q d.i (w.place (below_of s e)) f.lower f.upper (le_refl d.i) (o refl) (omega (arith, p, f.upper)) (inl p) (few_probes d e q f) n

  pub turn_sound : (d next : Descent) → Sound s d → turn s (index_look_ups s index) x y d ≡ onward next → Sound s next
  turn_sound d next h e = step_sound s d next h (turn_step d next h e)

  pub turn_falls : (d next : Descent) → Sound s d → turn s (index_look_ups s index) x y d ≡ onward next → turns_left next < turns_left d
  turn_falls d next h e = step_falls s d next h (turn_step d next h e)

  pub answered_counts : (d last : Descent) (a : Answer) → Sound s d → turn s (index_look_ups s index) x y d ≡ answered a last
      → Bounded s last
  answered_counts d last a h e = go (turn_answered s w x y d last a e)
    where
      go : Answers s w x y d last a → Bounded s last
      go (arrival l z b n) = rw n (h.counted, h.probed)
      go (landing e q f c b n) = rw n (past_counts s d e q d.i d.j h f.lower f.upper (few_probes d e q f))

  -- with as many turns as are left, more change nothing
  pub turns_enough : (fuel more : ℕ) (d : Descent) → Sound s d → turns_left d ≤ fuel
      → turns s (index_look_ups s index) x y (fuel + more) d ≡ turns s (index_look_ups s index) x y fuel d
  turns_enough zero more d h l = absurd (omega (arith, left_some s d h))
  turns_enough (suc fuel) more d h l = rw suc-add (go (turn s w x y d) refl (turns_enough fuel more))
    where
      go : (t : Turn) → turn s w x y d ≡ t
          → ((next : Descent) → Sound s next → turns_left next ≤ fuel → turns s w x y (fuel + more) next ≡ turns s w x y fuel next)
          → ◌≡◌ {A = Turn} (elim t [ onward next ↦ turns s w x y (fuel + more) next | answered a last ↦ answered a last | damaged ↦ damaged ])
          (elim t [ onward next ↦ turns s w x y fuel next | answered a last ↦ answered a last | damaged ↦ damaged ])
      go (onward next) e rest = rest next (turn_sound d next h e) (omega (arith, turn_falls d next h e))
      go (answered a last) e rest = refl
      go damaged e rest = refl

  -- what a turn leads to within so many more
  abbrev pub leads : ℕ → Turn → Turn
  leads fuel t = elim t [ onward next ↦ turns s (index_look_ups s index) x y fuel next | answered a last ↦ answered a last | damaged ↦ damaged ]

  -- the rest of the descent is that from d, with as many turns as are left
  pub record Rest (d : Descent) : Type 0 where
    pub sound : Sound s d
    pub fuel : ℕ
    pub enough : turns_left d ≤ fuel
    pub same : index_descent s index x y ≡ turns s (index_look_ups s index) x y fuel d

  pub start_rest : 1 ≤ zone_count s → Rest (start s)
  unfolding index_descent descent
  start_rest n = record { sound = start_sound s n; fuel = 2 * zone_count s; enough = start_left s n; same = refl }

  -- the turn from d begins the rest of the descent
  next_turn : (d : Descent) → Rest d → (fuel : ℕ) × (turns_left d ≤ suc fuel) × (index_descent s index x y ≡ leads fuel (turn s w x y d))
  next_turn d r = go r.fuel r.enough r.same
    where
      go : (fuel : ℕ) → turns_left d ≤ fuel → index_descent s index x y ≡ turns s w x y fuel d
          → (fuel : ℕ) × (turns_left d ≤ suc fuel) × (index_descent s index x y ≡ leads fuel (turn s w x y d))
      go zero l e = absurd (omega (arith, left_some s d r.sound))
      go (suc fuel) l e = (fuel, l, e)

  -- past a turn that goes onward the rest is that from the next state
  pub rest_onward : (d next : Descent) → Rest d → turn s (index_look_ups s index) x y d ≡ onward next → Rest next
  rest_onward d next r e =
      let t = next_turn d r in
      record { sound = turn_sound d next r.sound e; fuel = t.0; enough = omega (arith, t.1, turn_falls d next r.sound e); same = t.2 ∙ ap (leads t.0) e }

  -- a turn that does not go onward ends the descent
  pub rest_ends : (d : Descent) (end : Turn) → ((fuel : ℕ) → leads fuel end ≡ end) → Rest d → turn s (index_look_ups s index) x y d ≡ end → index_descent s index x y ≡ end
  rest_ends d end stops r e = let t = next_turn d r in t.2 ∙ (ap (leads t.0) e ∙ stops t.0)

  -- a descent that ends with an answer has counted at most bits(n-1) edges, and at most bits(n-1) x bits(m) probes
  pub descent_counts : 1 ≤ zone_count s → (a : Answer) (last : Descent) → index_descent s index x y ≡ answered a last
      → (length last.trail ≤ bits (zone_count s - 1)) × (last.probes ≤ bits (zone_count s - 1) * bits (edge_count s))
  unfolding index_descent descent
  descent_counts n a last e =
      let r = turns_answered s w x y (Sound s) turn_sound (2 * zone_count s) (start s) last a (start_sound s n) e in
      let c = answered_counts r.0 last a r.1 r.2 in
      (c.0, le_trans c.1 (mul-le-mul_right (bits (edge_count s)) c.0))
