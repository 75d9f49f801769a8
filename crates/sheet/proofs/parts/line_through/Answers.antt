-- Where no zone is left the line fills its n places, and is written over.
use Rattle.std.proofs.Common.{◌≡◌, ℕ, ◌+◌, List, ◌++◌, length, take, drop, sym, ap, ◌∙◌, zero-add, not, rules, None}
use lib.Seq.{take_at}
use Rattle.subdivision.specs.Formula.{holds}
use Rattle.subdivision.specs.Lists.{put}
use Rattle.subdivision.specs.ZoneLine.{is_in, zone_line}
use Rattle.line.specs.Waiting.{zones_of}
use Rattle.theory.proofs.Circles.{line_full}
use Rattle.theory.proofs.Lowest.{first_none}
use Rattle.sheet.specs.Judgement.{line_after}
use Rattle.sheet.proofs.parts.line_through.Goals as goal

-- a whole line, read back from the words that it was found in and written over others
written_over : (l found lent exit words : List ℕ) (n : ℕ) → length l ≡ n → words ≡ put l found
    → exit ≡ take 0 lent ++ (take n words ++ drop (0 + length (take n words)) lent) → exit ≡ put l lent
written_over l found lent exit words n full p e =
    let back : take n words ≡ l = ap (take n) p ∙ take_at l (drop (length l) found) n full in
    e ∙ (λ i. back i ++ drop (0 + length (back i)) lent) ∙ rw (zero-add (length l))

pub returns-then-is_none-clause-written : goal.returns-then-is_none-clause-written
returns-then-is_none-clause-written c =
    let z = c.zone_line-left in
    let a = c.args in
    let s = zones_of a.edges.now a.zones in
    let none : z.result ≡ None = search rules in
    let all = first_none (λ k. not (holds (is_in k (zone_line s)))) a.zones (sym z.ensures.left ∙ none) in
    written_over (zone_line s) a.found.now a.line.now c.write.new.table z.new.line a.zones ((line_full s).1 all) z.ensures.written c.write.ensures
    ∙ sym (ap (λ l. line_after s l a.line.now) none)
