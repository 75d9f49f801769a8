-- The probes of a chain over any words of an index: they miss exactly where an entry is at fault or they run out, and find the edge that is found.
use mathlib.Core.Path.{◌≡◌, refl, sym, ap, subst, ◌∙◌}
use mathlib.Core.Bool.{Bool, true, false, not}
use mathlib.Core.List.{List}
use mathlib.Core.Logic.{◌⊎◌, inl, inr, by_cases}
use Prim.Native.Nat.{ℕ, zero, suc, ◌+◌, ◌/◌, ◌<◌, ◌≤◌}
use native.Mathlib.Decide.{dec_lt}
use native.Mathlib.Omega.{arith}
use lib.Dec.{ltb}
use borrow.Author.Tests.{ltb-true, ltb-false, lt-ltb, le-ltb}
use Rattle.subdivision.specs.Results.{covered}
use Rattle.subdivision.specs.declared.Look.{Look}
use Rattle.subdivision.specs.declared.Look.TheVariants.{Faulty, West, Covering, Beyond}
use Rattle.subdivision.specs.declared.Probed.{Probed}
use Rattle.std.specs.Prelude.{Option, Some, None}
use Rattle.subdivision.specs.Formula.{holds, Means}
use Rattle.subdivision.specs.Sheet.{Sheet, east_margin, x_of, west_of, segment}
use Rattle.subdivision.specs.Lines.{covers}
use Rattle.subdivision.specs.Placed.{Covers}
use Rattle.subdivision.specs.Descent.{LookUps, entry_sound, look, probe, probe_chain, index_look_ups}
use Rattle.subdivision.specs.Damage.{middle, Left, whole, western, eastern, Finds}
use Rattle.theory.proofs.Decide.{means, held, denies, fails}
use Rattle.theory.proofs.Probes.{after, probe_next, probe_none}

module _ (s : Sheet) (index : List ℕ) (x y : ℕ) where
  -- the words of the index as look-ups
  abbrev w : LookUps
  w = index_look_ups s index

  -- what a look at entry e says of it
  abbrev Seen : ℕ → Look → Type 0
  Seen e Faulty = Means (entry_sound s e) → ⊥
  Seen e West = Means (entry_sound s e) × (x < x_of s (west_of s e))
  Seen e Covering = Means (entry_sound s e) × Covers s x e
  Seen e Beyond = Means (entry_sound s e) × ((x_of s (west_of s e) ≤ x) × (Covers s x e → ⊥))

  -- a look by its three tests
  abbrev sight : Bool → Bool → Bool → Look
  sight sound left covering =
      elim (not sound) [
        | true ↦ Faulty
        | false ↦
            elim left [
              | true ↦ West
              | false ↦ elim covering [ true ↦ Covering | false ↦ Beyond ]
            ]
      ]

  look_seen : (e : ℕ) → Seen e (look s w x e)
  look_seen e = go (holds (entry_sound s e)) (ltb x (x_of s (west_of s e))) (holds (covers (east_margin s) (segment s e) x)) refl refl refl
    where
      go : (a b c : Bool) → holds (entry_sound s e) ≡ a → ltb x (x_of s (west_of s e)) ≡ b → holds (covers (east_margin s) (segment s e) x) ≡ c
          → Seen e (sight a b c)
      go false b c p q r = denies (entry_sound s e) p
      go true true c p q r = (means (entry_sound s e) p, ltb-true x (x_of s (west_of s e)) q)
      go true false true p q r = (means (entry_sound s e) p, means (covers (east_margin s) (segment s e) x) r)
      go true false false p q r =
          (means (entry_sound s e) p, (ltb-false x (x_of s (west_of s e)) q, denies (covers (east_margin s) (segment s e) x) r))

  -- a sound edge that covers x does not begin east of it
  covers_from : (e : ℕ) → Means (entry_sound s e) → Covers s x e → x_of s (west_of s e) ≤ x
  covers_from e m (inl c) = c.0
  covers_from e m (inr c) = omega (arith, c.0, c.1, m.1.1.1)

  seen_look : (e : ℕ) (l : Look) → Seen e l → look s w x e ≡ l
  seen_look e Faulty n = rw (ap not (fails (entry_sound s e) n), look)
  seen_look e West n = rw (ap not (held (entry_sound s e) n.0), look, lt-ltb x (x_of s (west_of s e)) n.1)
  seen_look e Covering n =
      rw (ap not (held (entry_sound s e) n.0), look, le-ltb x (x_of s (west_of s e)) (covers_from e n.0 n.1), held (covers (east_margin s) (segment s e) x) n.1)
  seen_look e Beyond n =
      rw (ap not (held (entry_sound s e) n.0), look, le-ltb x (x_of s (west_of s e)) n.1.0, fails (covers (east_margin s) (segment s e) x) n.1.1)

  -- the probes of chain k come to an entry at fault, or run out
  abbrev pub Misses : ℕ → Type 0
  Misses k =
      (lo : ℕ) × (hi : ℕ) × Left s index x y k lo hi
      × (((lo < hi) × (Means (entry_sound s (middle s index x y lo hi)) → ⊥)) ⊎ (hi ≤ lo))

  -- what the probes of chain k come to, by what they give
  abbrev pub Gives : ℕ → Option Probed → Type 0
  Gives k (Some p) = Finds s index x y k p.edge
  Gives k None = Misses k

  probe_gives : (k fuel lo hi p : ℕ) → Left s index x y k lo hi → hi ≤ fuel + lo → Gives k (probe s w x fuel lo hi p)
  probe_gives k zero lo hi p left room = (lo, hi, left, inr (omega arith))
  probe_gives k (suc fuel) lo hi p left room =
      by_cases (dec_lt lo hi)
      (λ (some : lo < hi). subst (Gives k) (sym (probe_next s w x (look s w x (middle s index x y lo hi)) fuel lo hi p some refl)) (seen some (look s w x (middle s index x y lo hi)) (look_seen (middle s index x y lo hi)) (λ l. probe_gives k fuel lo ((lo + hi) / 2) (suc p) l (omega arith)) (λ l. probe_gives k fuel ((lo + hi) / 2 + 1) hi (suc p) l (omega arith))))
      (λ none. subst (Gives k) (sym (probe_none s w x (suc fuel) lo hi p (omega (arith, none)))) (lo, hi, left, inr (omega (arith, none))))
    where
      seen : lo < hi → (l : Look) → Seen (middle s index x y lo hi) l
          → (Left s index x y k lo ((lo + hi) / 2) → Gives k (probe s w x fuel lo ((lo + hi) / 2) (suc p)))
          → (Left s index x y k ((lo + hi) / 2 + 1) hi → Gives k (probe s w x fuel ((lo + hi) / 2 + 1) hi (suc p)))
          → Gives k (after s w x fuel lo hi p l)
      seen some Faulty m west east = (lo, hi, left, inl (some, m))
      seen some West m west east = west (western lo hi left some m.0 m.1)
      seen some Covering m west east = (lo, hi, left, (some, (refl, m)))
      seen some Beyond m west east = east (eastern lo hi left some m.0 m.1.0 m.1.1)

  -- what the probes of a chain give is so
  pub chain_gives : (k p : ℕ) → Gives k (probe_chain s w x k p)
  chain_gives k p = probe_gives k (w.start (k + 1)) (w.start k) (w.start (k + 1)) p whole (omega arith)

  -- the probes of chain k, p of them before, are those of a part of it, with as many probes as it has entries
  abbrev Narrowed : ℕ → ℕ → ℕ → ℕ → Type 0
  Narrowed k p lo hi = (fuel : ℕ) × (q : ℕ) × (hi ≤ fuel + lo) × (probe_chain s w x k p ≡ probe s w x fuel lo hi q)

  -- a look in the middle of what is left narrows it, or ends the probes
  narrows : (k p lo hi : ℕ) (l : Look) → lo < hi → Seen (middle s index x y lo hi) l → Narrowed k p lo hi
      → (fuel : ℕ) × (q : ℕ) × (hi ≤ suc fuel + lo) × (probe_chain s w x k p ≡ after s w x fuel lo hi q l)
  narrows k p lo hi l some m (zero, q, room, e) = absurd (omega arith)
  narrows k p lo hi l some m (suc fuel, q, room, e) =
      (fuel, q, room, e ∙ probe_next s w x l fuel lo hi q some (seen_look (middle s index x y lo hi) l m))

  left_probed : (k p lo hi : ℕ) → Left s index x y k lo hi → Narrowed k p lo hi
  left_probed k p lo hi whole = (w.start (k + 1), p, omega arith, refl)
  left_probed k p lo hi (western low high left some sound west) =
      let n = narrows k p low high West some (sound, west) (left_probed k p low high left) in (n.0, suc n.1, omega (arith, n.2), n.3)
  left_probed k p lo hi (eastern low high left some sound begun uncovered) =
      let n = narrows k p low high Beyond some (sound, (begun, uncovered)) (left_probed k p low high left) in (n.0, suc n.1, omega (arith, n.2), n.3)

  -- where an entry is at fault or the probes run out, they miss
  pub chain_misses : (k p : ℕ) → Misses k → probe_chain s w x k p ≡ None
  chain_misses k p (lo, hi, left, inl (some, fault)) = (narrows k p lo hi Faulty some fault (left_probed k p lo hi left)).3
  chain_misses k p (lo, hi, left, inr none) =
      let n = left_probed k p lo hi left in n.3 ∙ probe_none s w x n.0 lo hi n.1 none

  -- the edge found is the edge that the probes give
  pub chain_finds : (k p e : ℕ) → Finds s index x y k e → (q : ℕ) × (probe_chain s w x k p ≡ covered e q)
  chain_finds k p e (lo, hi, left, (some, (same, (sound, cover)))) =
      go (narrows k p lo hi Covering some (rw same at sound, rw same at cover) (left_probed k p lo hi left))
    where
      go : (fuel : ℕ) × (q : ℕ) × (hi ≤ suc fuel + lo) × (probe_chain s w x k p ≡ covered (middle s index x y lo hi) (suc q))
          → (q : ℕ) × (probe_chain s w x k p ≡ covered e q)
      go (fuel, q, room, given) = (suc q, given ∙ ap (λ f. covered f (suc q)) (sym same))
