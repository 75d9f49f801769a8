-- What the probes that are left find, by the look in the middle of them.
use Rattle.std.proofs.Common.{◌≡◌, ℕ, zero, suc, ◌+◌, ◌/◌, ◌<◌, ◌≤◌, Option, None, sym, ap, ◌∙◌, add-one, arith}
use borrow.Author.Tests.{lt-ltb, le-ltb}
use Rattle.subdivision.specs.declared.Look.{Look}
use Rattle.subdivision.specs.declared.Look.TheVariants.{Faulty, West, Covering, Beyond}
use Rattle.subdivision.specs.declared.Probed.{Probed}
use Rattle.subdivision.specs.Results.{covered}
use Rattle.subdivision.specs.Descent.{look, probe}
use Rattle.probes.specs.declared.Query.{Query}
use Rattle.probes.specs.Asked.{asked, looked_up}
use Rattle.probes.specs.Judged.{judged_look}

module _ (q : Query) (found : Option Probed) where
  -- the probes of the entries from lo to before hi, with p made before, find this
  abbrev pub Probing : ℕ → ℕ → ℕ → Type 0
  Probing lo hi p = (fuel : ℕ) × (hi ≤ fuel + lo) × (probe (asked q) (looked_up q) q.x fuel lo hi p ≡ found)

  -- where no entries are left
  pub probing_ends : {lo hi : ℕ} (p : ℕ) → hi ≤ lo → Probing lo hi p → None ≡ found
  probing_ends p h (zero, room, e) = e
  probing_ends {lo} {hi} p h (suc fuel, room, e) = rw (le-ltb lo hi h, probe) at e

  module _ {lo hi e : ℕ} (p : ℕ) (some : lo < hi) (entry : e ≡ (looked_up q).entry ((lo + hi) / 2)) where
    -- a look at the entry that was read is one at the middle
    middle : {seen : Look} → seen ≡ judged_look (asked q) q.x e → look (asked q) (looked_up q) q.x ((looked_up q).entry ((lo + hi) / 2)) ≡ seen
    middle told = sym (told ∙ ap (judged_look (asked q) q.x) entry)

    pub probing_faulty : Faulty ≡ judged_look (asked q) q.x e → Probing lo hi p → None ≡ found
    probing_faulty told (zero, room, same) = absurd (omega arith)
    probing_faulty told (suc fuel, room, same) = rw (lt-ltb lo hi some, middle told, probe) at same

    pub probing_west : West ≡ judged_look (asked q) q.x e → Probing lo hi p → Probing lo ((lo + hi) / 2) (p + 1)
    probing_west told (zero, room, same) = absurd (omega arith)
    probing_west told (suc fuel, room, same) =
        (fuel, omega arith, rw (add-one p) (rw (lt-ltb lo hi some, middle told, probe) at same))

    pub probing_covering : Covering ≡ judged_look (asked q) q.x e → Probing lo hi p → covered e (p + 1) ≡ found
    probing_covering told (zero, room, same) = absurd (omega arith)
    probing_covering told (suc fuel, room, same) =
        ap (λ (k : ℕ). covered k (p + 1)) entry ∙ rw (add-one p) (rw (lt-ltb lo hi some, middle told, probe) at same)

    pub probing_beyond : Beyond ≡ judged_look (asked q) q.x e → Probing lo hi p → Probing ((lo + hi) / 2 + 1) hi (p + 1)
    probing_beyond told (zero, room, same) = absurd (omega arith)
    probing_beyond told (suc fuel, room, same) =
        (fuel, omega arith, rw (add-one p) (rw (lt-ltb lo hi some, middle told, probe) at same))
