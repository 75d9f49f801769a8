-- Look-ups that give what the tables give: on an accepted sheet no judgement of them breaks, and chains are probed alike.
use mathlib.Core.Path.{◌≡◌, refl, sym, ap, ◌∙◌}
use mathlib.Core.Bool.{Bool, true, false, not}
use mathlib.Core.List.{List}
use Prim.Native.Nat.{ℕ, ◌+◌, ◌<◌, ◌≤◌}
use native.Mathlib.Nat.{add-zero}
use native.Mathlib.Omega.{arith}
use Rattle.subdivision.specs.Limits.{limits}
use Rattle.subdivision.specs.Formula.{Formula, not_so, holds, Means}
use Rattle.subdivision.specs.Layout.{place_word, zone_word, start_word, entry_word}
use Rattle.subdivision.specs.Sheet.{Sheet, edge_count, zone_count, west_of, east_of}
use Rattle.subdivision.specs.Accepted.{Accepted}
use Rattle.subdivision.specs.Index.{place_of, zone_at, start_of, entry_at}
use Rattle.subdivision.specs.Descent.{LookUps, breaks, starts_sound, entry_sound_under, look, probe, probe_chain, table_look_ups, index_look_ups}
use Rattle.subdivision.specs.Engine.{HoldsIndex}
use Rattle.theory.proofs.ChainCovers.{start_rises, start_within, entry_in_chain}
use Rattle.theory.proofs.Decide.{held}
use Rattle.theory.proofs.HeldIndex.{held_word}
use Rattle.theory.proofs.Index.{index_place, index_zone, index_start, index_entry}
use Rattle.theory.proofs.Probes.{probe_same}

-- look-ups that give what the tables alone give, judged under the limits that every call reads
pub record Faithful (s : Sheet) (w : LookUps) : Type 0 where
  pub placed : (z : ℕ) → z < zone_count s → w.place z ≡ place_of s z
  pub zoned : (p : ℕ) → p < zone_count s → w.zone p ≡ zone_at s p
  pub started : (k : ℕ) → k ≤ zone_count s → w.start k ≡ start_of s k
  pub entered : (t : ℕ) → t < edge_count s → w.entry t ≡ entry_at s t
  pub limited : w.limits ≡ limits

pub tables_faithful : (s : Sheet) → Faithful s (table_look_ups s)
tables_faithful s = record { placed = λ z h. refl; zoned = λ p h. refl; started = λ k h. refl; entered = λ t h. refl; limited = refl }

pub index_faithful : (s : Sheet) (index : List ℕ) → HoldsIndex s index → Faithful s (index_look_ups s index)
index_faithful s index h =
    record {
      placed = λ z b. held_word s index h (place_word (zone_count s) z) (omega arith) ∙ index_place s z b;
      zoned = λ p b. held_word s index h (zone_word (zone_count s) p) (omega arith) ∙ index_zone s p b;
      started = λ k b. held_word s index h (start_word (zone_count s) k) (omega arith) ∙ index_start s k b;
      entered = λ t b. held_word s index h (entry_word (zone_count s) t) (omega arith) ∙ index_entry s t;
      limited = refl;
    }

-- what is so does not break a look-up, judged or not
pub breaks_not : (w : LookUps) (p : Formula) → Means p → breaks w p ≡ false
breaks_not w p m = go w.judging
  where
    go : (b : Bool) → ◌≡◌ {A = Bool} (elim b [ true ↦ holds (not_so p) | false ↦ false ]) false
    go true = ap not (held p m)
    go false = refl

module _ (s : Sheet) (a : Accepted s) (w : LookUps) (f : Faithful s w) (x : ℕ) where
  -- an edge's record is not at fault
  looks_same : (e : ℕ) → e < edge_count s → look s w x e ≡ look s (table_look_ups s) x e
  looks_same e b =
      let names = a.two.0 e b in
      rw (breaks_not w (entry_sound_under w.limits s e) (rw f.limited (b, (names, ((a.one.0 (west_of s e) names.0.0, a.one.0 (east_of s e) names.0.1), a.two.1.0 e b)))), look)

  module _ (k : ℕ) (inside : k < zone_count s) where
    start_same : w.start k ≡ start_of s k
    start_same = f.started k (omega arith)

    next_start_same : w.start (k + 1) ≡ start_of s (k + 1)
    next_start_same = f.started (k + 1) (omega arith)

    -- the starts of a chain keep their bounds
    pub starts_kept_lem : breaks w (starts_sound s w k) ≡ false
    starts_kept_lem =
        breaks_not w (starts_sound s w k)
        (rw (start_same, next_start_same) ((start_within s a k, start_within s a (k + 1)), start_rises s a k))

    -- a chain is probed as on the tables
    pub chain_probed_alike : (probes : ℕ) → probe_chain s w x k probes ≡ probe_chain s (table_look_ups s) x k probes
    chain_probed_alike probes =
        rw (start_same, next_start_same)
        (ap (λ fuel. probe s w x fuel (start_of s k) (start_of s (k + 1)) probes) (sym (add-zero (start_of s (k + 1)))) ∙ probe_same s w (table_look_ups s) x (start_of s (k + 1)) 0 (start_of s k) (start_of s (k + 1)) probes (omega arith) alike)
      where
        alike : (t : ℕ) → start_of s k ≤ t → t < start_of s (k + 1)
            → (w.entry t ≡ entry_at s t) × (look s w x (w.entry t) ≡ look s (table_look_ups s) x (entry_at s t))
        alike t l h =
            let same : w.entry t ≡ entry_at s t = f.entered t (omega (arith, start_within s a (k + 1))) in
            (same, rw same (looks_same (entry_at s t) (entry_in_chain s a k t l h).0))
