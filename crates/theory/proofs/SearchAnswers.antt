-- What the quick search may answer, whatever the index holds.
use mathlib.Core.Path.{◌≡◌, refl, sym, ap, ◌∙◌, subst}
use mathlib.Core.Bool.{Bool, true, false, false≢true}
use mathlib.Core.List.{List}
use mathlib.Core.Logic.{◌⊎◌, inl, inr}
use Prim.Native.Nat.{ℕ, ◌*◌, ◌-◌, ◌<◌, ◌≤◌}
use native.Mathlib.Omega.{arith}
use lib.IntN.{ℤ}
use lib.ListN.{length}
use Rattle.std.specs.Prelude.{Ok, Err}
use Rattle.subdivision.specs.Results.{Verdict, Reply, Search, passed, refused, reply_of, examined_of, probes_of}
use Rattle.subdivision.specs.declared.Answer.{Answer}
use Rattle.subdivision.specs.declared.Answer.TheVariants.{Vertex, Edge}
use Rattle.subdivision.specs.Formula.{Formula, Means, holds}
use Rattle.subdivision.specs.Dyadic.{bits}
use Rattle.subdivision.specs.Sheet.{Sheet, shifted, zone_count, west_of, east_of}
use Rattle.subdivision.specs.Refusals.{unnamed, limit_refusals, room_refusal}
use Rattle.subdivision.specs.Faults.{FaultOf, AllKept}
use Rattle.subdivision.specs.Damage.{SearchRefuses}
use Rattle.subdivision.specs.Reading.{on_sheet, is_vertex}
use Rattle.subdivision.specs.Descent.{Descent, answered, on_edge, turn, start, descent, index_look_ups, index_descent}
use Rattle.subdivision.specs.Calls.{Searched, search_refused, searching}
use Rattle.theory.proofs.SearchRefusals.{ByLine, ByAnswer, ByDamage, search_comes, search_refused_exactly}
use Rattle.theory.proofs.Turns.{Answers, arrival, landing, turn_answered, turns_answered}

-- ---- a zone that is answered

-- an edge that is landed on answers no zone
landed_unzoned : (s : Sheet) (x y e z : ℕ) → on_edge s x y e ≡ Answer.Zone z → ⊥
landed_unzoned s x y e z = go (holds (is_vertex s x y (west_of s e))) (holds (is_vertex s x y (east_of s e)))
  where
    go : (b c : Bool)
        → ◌≡◌ {A = Answer} (elim b [ true ↦ Vertex (west_of s e) | false ↦ elim c [ true ↦ Vertex (east_of s e) | false ↦ Edge e ] ]) (Answer.Zone z) → ⊥
    go true c p = false≢true cc
    go false true p = false≢true cc
    go false false p = false≢true cc

-- a zone that a turn over the words of an index answers is one of the sheet's
turn_zone : (s : Sheet) (index : List ℕ) (x y : ℕ) (d last : Descent) (a : Answer) → turn s (index_look_ups s index) x y d ≡ answered a last
    → (z : ℕ) → a ≡ Answer.Zone z → z < zone_count s
turn_zone s index x y d last a h z p = go (turn_answered s (index_look_ups s index) x y d last a h)
  where
    go : Answers s (index_look_ups s index) x y d last a → z < zone_count s
    go (arrival l k e m) =
        let same : (index_look_ups s index).zone d.i ≡ z = cc in
        subst (λ q. q < zone_count s) same (k refl)
    go (landing e q f g m n) = absurd (landed_unzoned s x y e z (sym m ∙ p))

-- a zone that a descent over the words of an index answers is one of the sheet's
descent_zone : (s : Sheet) (index : List ℕ) (x y : ℕ) (last : Descent) (a : Answer) → index_descent s index x y ≡ answered a last
    → (z : ℕ) → a ≡ Answer.Zone z → z < zone_count s
unfolding index_descent descent
descent_zone s index x y last a h z p =
    let r = turns_answered s (index_look_ups s index) x y (λ _. Unit {0}) (λ d next k e. k) (2 * zone_count s) (start s) last a tt h in
    turn_zone s index x y r.0 last a r.2 z p

-- a zone that the search answers is one of the sheet's
pub searched_zone : (s : Sheet) (index : List ℕ) (x y : ℤ) (lent : List ℕ) (z : ℕ) → reply_of (searching s index x y lent).found ≡ Ok (Answer.Zone z) → z < zone_count s
searched_zone s index x y lent z p = go (search_comes s index x y lent)
  where
    unrefused : (n i : ℕ) → searching s index x y lent ≡ search_refused n i lent → ⊥
    unrefused n i r =
        let same : refused n i ≡ Ok (Answer.Zone z) = sym (ap (λ (q : Searched). reply_of q.found) r) ∙ p in
        false≢true cc

    go : ByLine s index x y lent ⊎ (ByAnswer s index x y lent ⊎ ByDamage s index x y lent) → z < zone_count s
    go (inl (n, i, (e, r))) = absurd (unrefused n i r)
    go (inr (inl (k, (a, d, (t, r))))) = let same : Ok a ≡ Ok (Answer.Zone z) = sym (ap (λ (q : Searched). reply_of q.found) r) ∙ p in
        let zone : a ≡ Answer.Zone z = cc in descent_zone s index (shifted x) (shifted y) d a t z zone
    go (inr (inr (k, (t, r)))) = absurd (unrefused 22 0 r)

-- ---- the refusals that are left

-- a line that names nothing gives its own number and the item 0
unnamed_gives : (given : ℕ) (kept : Formula) (number item : ℕ) → FaultOf (unnamed given kept) number item → (number ≡ given) × (item ≡ 0)
unnamed_gives given kept number item (n, (b, inl (none, i))) = (n, i)
unnamed_gives given kept number item (n, (b, inr f)) = absurd (omega (arith, f.within))

-- where the limits are kept and the index and the trail have room, the search refuses with 20 or 22 alone, and names nothing
pub searched_refusals : (s : Sheet) (index : List ℕ) (x y : ℤ) (lent : List ℕ) → AllKept (limit_refusals s)
    → Means (room_refusal s (length index)).kept → bits (zone_count s - 1) ≤ length lent
    → (number item : ℕ) → reply_of (searching s index x y lent).found ≡ refused number item → ((number ≡ 20) ⊎ (number ≡ 22)) × (item ≡ 0)
searched_refusals s index x y lent limits words places number item p = go ((search_refused_exactly s index x y lent number item).0 p)
  where
    go : SearchRefuses s index (shifted x) (shifted y) (length lent) number item → ((number ≡ 20) ⊎ (number ≡ 22)) × (item ≡ 0)
    go (inl (inl (n, (b, i)))) = absurd (b limits.0)
    go (inl (inr (k, inl (n, (b, i))))) = absurd (b limits.1.0)
    go (inl (inr (k, inr (l, inl (n, (b, i)))))) = absurd (b words)
    go (inl (inr (k, inr (l, inr (m, inl f))))) = let g = unnamed_gives 20 (on_sheet s (shifted x) (shifted y)) number item f in (inl g.0, g.1)
    go (inl (inr (k, inr (l, inr (m, inr (o, inl (n, (b, i)))))))) = absurd (b places)
    go (inl (inr (k, inr (l, inr (m, inr (o, inr (q, g))))))) = absurd g
    go (inr (k, (f, (n, i)))) = (inr n, i)
