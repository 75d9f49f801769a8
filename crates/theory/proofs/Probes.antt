-- The probes of a chain, for any look-ups: what is found, within how many probes, and when they find it.
use mathlib.Core.Path.{sym, ◌≡◌, refl, ap, ◌∙◌}
use mathlib.Core.Bool.{Bool, true, false}
use mathlib.Core.Logic.{by_cases}
use Prim.Native.Nat.{ℕ, zero, suc, ◌+◌, ◌-◌, ◌/◌, ◌<◌, ◌≤◌}
use native.Mathlib.Nat.{zero-add, suc-add, le_refl}
use native.Mathlib.Decide.{dec_lt}
use native.Mathlib.Omega.{arith}
use lib.Dec.{ltb}
use borrow.Author.Tests.{ltb-true, lt-ltb, le-ltb}
use Rattle.subdivision.specs.Results.{covered}
use Rattle.subdivision.specs.declared.Look.{Look}
use Rattle.subdivision.specs.declared.Look.TheVariants.{Faulty, West, Covering, Beyond}
use Rattle.subdivision.specs.declared.Probed.{Probed}
use Rattle.std.specs.Prelude.{Option, Some, None}
use Rattle.subdivision.specs.Dyadic.{bits}
use Rattle.subdivision.specs.Sheet.{Sheet}
use Rattle.subdivision.specs.Descent.{LookUps, look, probe}
use Rattle.theory.proofs.Blocks.{bits_mono}
use Rattle.theory.proofs.Dyadic.{bits_half}
use Rattle.theory.proofs.Results.{same_covered}

-- the middle of lo and hi, rounded down
abbrev middle : ℕ → ℕ → ℕ
middle lo hi = (lo + hi) / 2

module _ (s : Sheet) (w : LookUps) (x : ℕ) where
  -- what is found after a look in the middle
  abbrev pub after : ℕ → ℕ → ℕ → ℕ → Look → Option Probed
  after fuel lo hi p l =
      elim l [
        | Faulty ↦ None
        | West ↦ probe s w x fuel lo (middle lo hi) (suc p)
        | Covering ↦ covered (w.entry (middle lo hi)) (suc p)
        | Beyond ↦ probe s w x fuel (middle lo hi + 1) hi (suc p)
      ]

  -- an entry between lo and hi that covers, found within as many probes as the bit length of their number
  abbrev pub FoundBetween : ℕ → ℕ → ℕ → ℕ → ℕ → Type 0
  FoundBetween lo hi p e q =
      (t : ℕ) × ((lo ≤ t) × (t < hi)) × ((e ≡ w.entry t) × ((look s w x e ≡ Covering) × (q ≤ p + bits (hi - lo))))

  found_in : (low high lo hi p e q : ℕ) → lo < hi → lo ≤ low → high ≤ hi → high - low ≤ (hi - lo) / 2 → FoundBetween low high (suc p) e q → FoundBetween lo hi p e q
  found_in low high lo hi p e q some l h half f =
      (f.0, (omega (arith, f.1.0), omega (arith, f.1.1)), (f.2.0, (f.2.1.0, omega (arith, f.2.1.1, bits_half (hi - lo) (omega arith), bits_mono (high - low) ((hi - lo) / 2) half))))

  pub probe_found : (fuel lo hi p e q : ℕ) → probe s w x fuel lo hi p ≡ covered e q → FoundBetween lo hi p e q
  probe_found zero lo hi p e q h = let never : ◌≡◌ {A = ℕ} 0 1 = cc in absurd (omega arith)
  probe_found (suc fuel) lo hi p e q h =
      go (ltb lo hi) refl h (probe_found fuel lo (middle lo hi) (suc p) e q) (probe_found fuel (middle lo hi + 1) hi (suc p) e q)
    where
      seen : (l : Look) → look s w x (w.entry (middle lo hi)) ≡ l → lo < hi → after fuel lo hi p l ≡ covered e q
          → (probe s w x fuel lo (middle lo hi) (suc p) ≡ covered e q → FoundBetween lo (middle lo hi) (suc p) e q)
          → (probe s w x fuel (middle lo hi + 1) hi (suc p) ≡ covered e q → FoundBetween (middle lo hi + 1) hi (suc p) e q)
          → FoundBetween lo hi p e q
      seen Faulty d some r west east = let never : ◌≡◌ {A = ℕ} 0 1 = cc in absurd (omega arith)
      seen West d some r west east = found_in lo (middle lo hi) lo hi p e q some (le_refl lo) (omega arith) (omega arith) (west r)
      seen Covering d some r west east =
          let one = same_covered (w.entry (middle lo hi)) (suc p) e q r in
          let same : e ≡ w.entry (middle lo hi) = sym one.0 in
          let count : q ≡ suc p = sym one.1 in
          (middle lo hi, (omega arith, omega arith), (same, (ap (look s w x) same ∙ d, omega (arith, bits_half (hi - lo) (omega arith)))))
      seen Beyond d some r west east = found_in (middle lo hi + 1) hi lo hi p e q some (omega arith) (le_refl hi) (omega arith) (east r)

      go : (b : Bool) → ltb lo hi ≡ b
          → ◌≡◌ {A = Option Probed} (elim b [ false ↦ None | true ↦ after fuel lo hi p (look s w x (w.entry (middle lo hi))) ]) (covered e q)
          → (probe s w x fuel lo (middle lo hi) (suc p) ≡ covered e q → FoundBetween lo (middle lo hi) (suc p) e q)
          → (probe s w x fuel (middle lo hi + 1) hi (suc p) ≡ covered e q → FoundBetween (middle lo hi + 1) hi (suc p) e q)
          → FoundBetween lo hi p e q
      go false c r west east = let never : ◌≡◌ {A = ℕ} 0 1 = cc in absurd (omega arith)
      go true c r west east = seen (look s w x (w.entry (middle lo hi))) refl (ltb-true lo hi c) r west east

  -- what the look in the middle leads to
  pub probe_next : (l : Look) (fuel lo hi p : ℕ) → lo < hi → look s w x (w.entry (middle lo hi)) ≡ l → probe s w x (suc fuel) lo hi p ≡ after fuel lo hi p l
  probe_next l fuel lo hi p h e = rw (lt-ltb lo hi h, e, probe)

  -- where no entries are left nothing is found
  pub probe_none : (fuel lo hi p : ℕ) → hi ≤ lo → probe s w x fuel lo hi p ≡ None
  probe_none zero lo hi p h = refl
  probe_none (suc fuel) lo hi p h = rw (le-ltb lo hi h, probe)

  -- where x is beyond every entry before t and west of every one after it, the covering entry t is found
  pub probe_finds : (t fuel lo hi p : ℕ) → lo ≤ t → t < hi → hi ≤ fuel + lo → look s w x (w.entry t) ≡ Covering
      → ((u : ℕ) → lo ≤ u → u < t → look s w x (w.entry u) ≡ Beyond)
      → ((u : ℕ) → t < u → u < hi → look s w x (w.entry u) ≡ West)
      → (q : ℕ) × (probe s w x fuel lo hi p ≡ covered (w.entry t) q)
  probe_finds t zero lo hi p l h room here before behind = absurd (omega arith)
  probe_finds t (suc fuel) lo hi p l h room here before behind =
      by_cases (dec_lt t (middle lo hi))
      (λ (b : t < middle lo hi). next West (behind (middle lo hi) b (omega arith)) (probe_finds t fuel lo (middle lo hi) (suc p) l b (omega arith) here before (λ u c d. behind u c (omega arith))))
      (λ n. by_cases (dec_lt (middle lo hi) t) (λ (b : middle lo hi < t). next Beyond (before (middle lo hi) (omega arith) b) (probe_finds t fuel (middle lo hi + 1) hi (suc p) (omega arith) h (omega arith) here (λ u c d. before u (omega arith) d) behind)) (λ o. at (omega (arith, n, o))))
    where
      next : (k : Look) → look s w x (w.entry (middle lo hi)) ≡ k → (q : ℕ) × (after fuel lo hi p k ≡ covered (w.entry t) q)
          → (q : ℕ) × (probe s w x (suc fuel) lo hi p ≡ covered (w.entry t) q)
      next k e r = (r.0, probe_next k fuel lo hi p (omega arith) e ∙ r.1)

      at : middle lo hi ≡ t → (q : ℕ) × (probe s w x (suc fuel) lo hi p ≡ covered (w.entry t) q)
      at e = next Covering (ap (λ (k : ℕ). look s w x (w.entry k)) e ∙ here) (suc p, ap (λ (k : ℕ). covered (w.entry k) (suc p)) e)

module _ (s : Sheet) (w v : LookUps) (x : ℕ) where
  -- look-ups with the same entries, seen alike, are probed alike, and as many probes as there are entries are enough
  pub probe_same : (fuel more lo hi p : ℕ) → hi - lo ≤ fuel
      → ((t : ℕ) → lo ≤ t → t < hi → (w.entry t ≡ v.entry t) × (look s w x (w.entry t) ≡ look s v x (v.entry t)))
      → probe s w x (fuel + more) lo hi p ≡ probe s v x fuel lo hi p
  probe_same zero more lo hi p h alike = rw zero-add (probe_none s w x more lo hi p (omega arith))
  probe_same (suc fuel) more lo hi p h alike =
      rw suc-add (go (ltb lo hi) refl
      (λ some. probe_same fuel more lo (middle lo hi) (suc p) (omega arith) (λ t b c. alike t b (omega arith)))
      (λ some. probe_same fuel more (middle lo hi + 1) hi (suc p) (omega arith) (λ t b c. alike t (omega arith) c)))
    where
      seen : (l : Look) → w.entry (middle lo hi) ≡ v.entry (middle lo hi)
          → probe s w x (fuel + more) lo (middle lo hi) (suc p) ≡ probe s v x fuel lo (middle lo hi) (suc p)
          → probe s w x (fuel + more) (middle lo hi + 1) hi (suc p) ≡ probe s v x fuel (middle lo hi + 1) hi (suc p)
          → after s w x (fuel + more) lo hi p l ≡ after s v x fuel lo hi p l
      seen Faulty e west east = refl
      seen West e west east = west
      seen Covering e west east = ap (λ (k : ℕ). covered k (suc p)) e
      seen Beyond e west east = east

      go : (b : Bool) → ltb lo hi ≡ b
          → (lo < hi → probe s w x (fuel + more) lo (middle lo hi) (suc p) ≡ probe s v x fuel lo (middle lo hi) (suc p))
          → (lo < hi → probe s w x (fuel + more) (middle lo hi + 1) hi (suc p) ≡ probe s v x fuel (middle lo hi + 1) hi (suc p))
          → ◌≡◌ {A = Option Probed} (elim b [ false ↦ None | true ↦ after s w x (fuel + more) lo hi p (look s w x (w.entry (middle lo hi))) ])
          (elim b [ false ↦ None | true ↦ after s v x fuel lo hi p (look s v x (v.entry (middle lo hi))) ])
      go false c west east = refl
      go true c west east =
          let some : lo < hi = ltb-true lo hi c in
          let same = alike (middle lo hi) (omega arith) (omega arith) in
          seen (look s w x (w.entry (middle lo hi))) same.0 (west some) (east some) ∙ ap (after s v x fuel lo hi p) same.1

-- more probes than there are entries change nothing
pub probe_enough : (s : Sheet) (w : LookUps) (x fuel more lo hi p : ℕ) → hi - lo ≤ fuel → probe s w x (fuel + more) lo hi p ≡ probe s w x fuel lo hi p
probe_enough s w x fuel more lo hi p h = probe_same s w w x fuel more lo hi p h (λ t l b. (refl, refl))
