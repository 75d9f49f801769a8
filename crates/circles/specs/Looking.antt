-- What is held while the zones that steps up lead to from a zone are looked for: their list at the front of the queue, and a mark for each.
use Rattle.std.specs.Prelude.{◌≡◌, true, false, List, [], ℕ, ◌<◌, length, get_or, take}
use Rattle.subdivision.specs.Formula.{holds}
use Rattle.subdivision.specs.Lists.{tab}
use Rattle.subdivision.specs.ZoneLine.{is_in}
use Rattle.line.specs.Waiting.{zones_of}
use Rattle.theory.proofs.Reached.{Fits}

-- the mark of zone y: 1 where it stands in the list, otherwise 0
abbrev pub mark_of : List ℕ → ℕ → ℕ
mark_of l y = elim (holds (is_in y l)) [ true ↦ 1 | false ↦ 0 ]

-- the first so many words of the queue are zones, each once; the marks are theirs, and the queue has a place for each zone
pub record Looking (marks queue : List ℕ) (count : ℕ) : Type 0 where
  pub marked : marks ≡ tab (mark_of (take count queue)) (length marks)
  pub room : length queue ≡ length marks
  pub long : length (take count queue) ≡ count
  pub zones : (i : ℕ) → i < count → get_or queue i 0 < length marks
  pub fits : Fits (zones_of [] (length marks)) (take count queue)
