-- A step of the quick search against the turn of the defined descent over the words of an index.
use Rattle.std.proofs.Common.{◌≡◌, List, ℕ, ◌+◌, Option, sym, subst}
use Rattle.subdivision.specs.Results.{covered}
use Rattle.subdivision.specs.Descent.{Turn, probe}
use Rattle.subdivision.specs.Descent as defined
use Rattle.subdivision.specs.Damage.{Finds}
use Rattle.theory.proofs.ProbeFaults.{Gives, chain_gives}
use Rattle.tables.specs.Known.{EndsKnown}
use Rattle.probes.specs.declared.Query.{Query}
use Rattle.probes.specs.Asked.{asked, looked_up}
use Rattle.descent.specs.declared.Descent.{Descent}
use Rattle.descent.specs.declared.Step.{Step}
use Rattle.descent.specs.Steps.{state_of, turn_of, Counted}

-- a step from d leads where a turn leads from d's state, whatever was examined before, and counts the edge that it examines
abbrev pub Follows : Query → Descent → (defined.Descent → Turn) → Option Step → Type 0
Follows q d next step =
    ((trail : List ℕ) → turn_of (asked q) q.x q.y trail step ≡ next (state_of d trail)) × Counted d step

-- an edge that the probes of a chain find is there, and so are its vertices
pub covered_known : (q : Query) (k made : ℕ) {from to e p : ℕ} → from ≡ (looked_up q).start k → to ≡ (looked_up q).start (k + 1)
    → covered e p ≡ probe (asked q) (looked_up q) q.x to from to made → EndsKnown q.tables.vertices.now q.tables.edges.now e
covered_known q k made {e = e} from to found =
    go (subst (Gives (asked q) q.index.now q.x q.y k) (sym (rw (from, to) at found)) (chain_gives (asked q) q.index.now q.x q.y k made))
  where
    go : Finds (asked q) q.index.now q.x q.y k e → EndsKnown q.tables.vertices.now q.tables.edges.now e
    go (lo, hi, left, (some, (same, (sound, cover)))) = (sound.0, sound.1.0.0)
