-- The loop of the quick search against the turns of the defined descent: the states that it reaches, where its steps lead, and how it ends.
use mathlib.Core.Path.{◌≡◌, refl, sym, ap, ◌∙◌, subst}
use mathlib.Core.Bool.{Bool, true, false, not}
use mathlib.Core.List.{List, [], ◌∷◌, ◌++◌}
use mathlib.Core.Logic.{by_cases}
use Prim.Native.Nat.{ℕ, ◌+◌, ◌-◌, ◌<◌, ◌≤◌, zero-le}
use native.Mathlib.Nat.{le_trans, mul-le-mul}
use native.Mathlib.Numerals.{add-one}
use native.Mathlib.Decide.{dec_lt}
use native.Mathlib.Omega.{arith}
use lib.Dec.{ltb}
use lib.ListN.{length, take, set, get_or, length-append, length-set}
use lib.Seq.{take-suc-set}
use borrow.Author.Tests.{lt-ltb, le-ltb, le-leb, lt-leb}
use Rattle.subdivision.specs.declared.Answer.{Answer}
use Rattle.std.specs.Prelude.{Option, Some, None, Ok}
use Rattle.subdivision.specs.Results.{Search, refused, examined_of}
use Rattle.subdivision.specs.Limits.{max_zones, max_edges, max_examined}
use Rattle.subdivision.specs.Dyadic.{bits, top_bit}
use Rattle.subdivision.specs.Layout.{zone_word}
use Rattle.subdivision.specs.Sheet.{Sheet, edge_count, zone_count}
use Rattle.subdivision.specs.Descent.{LookUps, Turn, onward, answered, damaged, on_edge, turn, index_descent}
use Rattle.subdivision.specs.Descent as defined
use Rattle.theory.proofs.Dyadic.{bits_le, few_edges}
use Rattle.theory.proofs.Descents.{turns_left, turn_sound, turn_falls, leads, Rest, start_rest, rest_onward, rest_ends, answered_counts, descent_counts}
use Rattle.probes.specs.declared.Query.{Query}
use Rattle.probes.specs.Asked.{asked, looked_up}
use Rattle.descent.specs.declared.Descent.{Descent}
use Rattle.descent.specs.declared.Step.{Step}
use Rattle.descent.specs.declared.Step.TheVariants.{Son, Past, On}
use Rattle.descent.specs.Steps.{state_of, arrived_found, found_by, trail_of, descent_asked}
use Rattle.descent.proofs.Steps.{Follows}

-- the edges examined so far: the front of the array
abbrev listed : Descent → List ℕ → List ℕ
listed d array = take d.examined array

module _ (s : Sheet) (index : List ℕ) (x y : ℕ) where
  -- a state that the loop reaches, with its array: the array has room, and lists as many edges as are counted; the rest of the descent is
  -- that from this state
  pub record Reached (d : Descent) (array : List ℕ) : Type 0 where
    pub room : bits (zone_count s - 1) ≤ length array
    pub counted : length (listed d array) ≡ d.examined
    pub rest : Rest s index x y (state_of d (listed d array))

  pub start_reached : (array : List ℕ) → 1 ≤ zone_count s → bits (zone_count s - 1) ≤ length array
      → Reached (record { i = 0; j = zone_count s - 1; k = top_bit (zone_count s - 1); examined = 0; probes = 0 }) array
  start_reached array some room = record { room = room; counted = refl; rest = start_rest s index x y some }

  -- what a step requires
  pub step_allowed : (d : Descent) (array : List ℕ) → Reached d array → zone_count s ≤ max_zones → edge_count s ≤ max_edges
      → (d.j ≤ max_zones) × ((d.examined < max_zones) × (d.probes ≤ 2147483648))
  step_allowed d array r n m =
      (omega (arith, r.rest.sound.inside), (omega (arith, r.counted, long), omega (arith, le_trans r.rest.sound.probed (mul-le-mul long wide))))
    where
      long : length (listed d array) ≤ max_examined
      long = le_trans r.rest.sound.counted (few_edges (zone_count s) n)

      wide : bits (edge_count s) ≤ 32
      wide = bits_le 32 (edge_count s) (omega arith)

module _ (q : Query) where
  -- the sheet that is searched, the words of its index and the point
  abbrev s : Sheet
  s = asked q

  abbrev w : LookUps
  w = looked_up q

  abbrev index : List ℕ
  index = q.index.now

  abbrev x : ℕ
  x = q.x

  abbrev y : ℕ
  y = q.y

  -- a state that the loop reaches in this search
  abbrev pub ReachedIn : Descent → List ℕ → Type 0
  ReachedIn d array = Reached s index x y d array

  -- what the loop finds and lists is what the whole descent does
  abbrev pub Ended : Search → List ℕ → Type 0
  Ended r array = (r ≡ found_by (descent_asked q)) × (take (examined_of r) array ≡ trail_of (descent_asked q))

  -- a state reached after d, with fewer turns left
  abbrev Onward : Descent → Descent → List ℕ → Type 0
  Onward d next array = (turns_left (state_of next []) < turns_left (state_of d [])) × ReachedIn next array

  -- where a step from d leads: onward or to an end, with the edge that it examines written where there is room
  abbrev pub Leads : Descent → List ℕ → Option Step → Type 0
  Leads d array (Some (Son next)) = Onward d next array
  Leads d array (Some (Past e next)) = (d.examined < bits (zone_count s - 1)) × Onward d next (set array d.examined e)
  Leads d array (Some (On e last)) =
      (d.examined < bits (zone_count s - 1))
      × Ended (Ok (record { answer = on_edge s x y e; examined = last.examined; probes = last.probes })) (set array d.examined e)
  Leads d array None = Ended (refused 22 0) array

  module _ (d : Descent) (array : List ℕ) (r : ReachedIn d array) where
    abbrev from : defined.Descent
    from = state_of d (listed d array)

    -- a turn that goes onward reaches the next state
    goes_on : (next : Descent) (more : List ℕ) → bits (zone_count s - 1) ≤ length more → length (listed next more) ≡ next.examined
        → turn s w x y from ≡ onward (state_of next (listed next more)) → Onward d next more
    goes_on next more room count e =
        (turn_falls s index x y from to r.rest.sound e, record { room = room; counted = count; rest = rest_onward s index x y from to r.rest e })
      where
        to : defined.Descent
        to = state_of next (listed next more)

    -- a turn that does not go onward ends the descent
    ends : (t : Turn) (f : Search) (left : List ℕ) → ((fuel : ℕ) → leads s index x y fuel t ≡ t) → turn s w x y from ≡ t → f ≡ found_by t → take (examined_of f) left ≡ trail_of t
        → Ended f left
    ends t f left stops e found trail =
        let whole = sym (rest_ends s index x y from t stops r.rest e) in (found ∙ ap found_by whole, trail ∙ ap trail_of whole)

    -- the edges listed with one more
    abbrev with : ℕ → List ℕ
    with e = listed d array ++ (e ∷ [])

    with_long : (e : ℕ) → length (with e) ≡ d.examined + 1
    with_long e = rw (length-append, r.counted)

    -- the array with that edge written lists it
    with_listed : (e : ℕ) (next : Descent) → next.examined ≡ d.examined + 1 → d.examined < bits (zone_count s - 1)
        → listed next (set array d.examined e) ≡ with e
    with_listed e next c h = rw (c, add-one d.examined) (take-suc-set array d.examined e (omega (arith, r.room)))

    pub step_leads : (t : Option Step) → Follows q d (turn s w x y) t → Leads d array t
    step_leads (Some (Son next)) (f, c) = goes_on next array r.room (rw c r.counted) (rw c (sym (f (listed d array))))
    step_leads (Some (Past e next)) (f, c) =
        (room, goes_on next (set array d.examined e) (rw length-set r.room) (ap length more ∙ with_long e ∙ sym c) (passes ∙ ap (λ (l : List ℕ). onward (state_of next l)) (sym more)))
      where
        passes : turn s w x y from ≡ onward (state_of next (with e))
        passes = sym (f (listed d array))

        room : d.examined < bits (zone_count s - 1)
        room = omega (arith, (turn_sound s index x y from (state_of next (with e)) r.rest.sound passes).counted, with_long e)

        more : listed next (set array d.examined e) ≡ with e
        more = with_listed e next c room
    step_leads (Some (On e last)) (f, c) =
        (room, ends (answered (on_edge s x y e) (state_of last (with e))) _ (set array d.examined e) (λ fuel. refl) lands (λ i. Ok (record { answer = on_edge s x y e; examined = (c ∙ sym (with_long e)) i; probes = last.probes })) (with_listed e last c room))
      where
        lands : turn s w x y from ≡ answered (on_edge s x y e) (state_of last (with e))
        lands = sym (f (listed d array))

        room : d.examined < bits (zone_count s - 1)
        room = omega (arith, (answered_counts s index x y from (state_of last (with e)) (on_edge s x y e) r.rest.sound lands).0, with_long e)
    step_leads None (f, c) = ends damaged _ array (λ fuel. refl) (sym (f (listed d array))) refl refl

    -- at i = j the zone at that place is found, or a word at fault
    pub arrived_ended : d.j ≤ d.i → Ended (arrived_found (zone_count s) index d) array
    arrived_ended h = by_cases (dec_lt z (zone_count s)) inside outside
      where
        z : ℕ
        z = get_or index (zone_word (zone_count s) d.i) 0

        judged : Bool → Turn
        judged b = elim (not b) [ true ↦ damaged | false ↦ answered (Answer.Zone z) from ]

        arrives : turn s w x y from ≡ judged (ltb z (zone_count s))
        arrives = rw (le-ltb d.i d.j h, turn)

        inside : z < zone_count s → Ended (arrived_found (zone_count s) index d) array
        inside l =
            rw (lt-leb (zone_count s) z l, arrived_found)
            (ends (answered (Answer.Zone z) from) _ array (λ fuel. refl) (arrives ∙ ap judged (lt-ltb z (zone_count s) l)) (λ i. Ok (record { answer = Answer.Zone z; examined = sym r.counted i; probes = d.probes })) refl)

        outside : (z < zone_count s → ⊥) → Ended (arrived_found (zone_count s) index d) array
        outside n =
            let l : zone_count s ≤ z = omega (arith, n) in
            rw (le-leb (zone_count s) z l, arrived_found)
            (ends damaged _ array (λ fuel. refl) (arrives ∙ ap judged (le-ltb z (zone_count s) l)) refl refl)

-- what is found counts what is listed
pub ended_long : (t : Turn) (r : Search) (array : List ℕ) → r ≡ found_by t → take (examined_of r) array ≡ trail_of t
    → length (take (examined_of r) array) ≡ examined_of r
ended_long t r array found front = ap length front ∙ counts t ∙ sym (ap examined_of found)
  where
    counts : (t : Turn) → length (trail_of t) ≡ examined_of (found_by t)
    counts (onward d) = refl
    counts (answered a d) = refl
    counts damaged = refl

-- and that is no more than a descent examines
pub ended_few : (s : Sheet) (index : List ℕ) (x y : ℕ) {r : Search} → 1 ≤ zone_count s → r ≡ found_by (index_descent s index x y)
    → examined_of r ≤ bits (zone_count s - 1)
ended_few s index x y n found = subst (λ (f : Search). examined_of f ≤ bits (zone_count s - 1)) (sym found) (few (index_descent s index x y) refl)
  where
    few : (t : Turn) → index_descent s index x y ≡ t → examined_of (found_by t) ≤ bits (zone_count s - 1)
    few (onward d) p = zero-le
    few (answered a d) p = (descent_counts s index x y n a d p).0
    few damaged p = zero-le
