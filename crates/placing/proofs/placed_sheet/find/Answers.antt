-- The third demand and refusal 20: on an accepted sheet the quick search answers as the plain reading does.
use Rattle.std.specs.Prelude.{◌≡◌, List, ℕ, ℤ}
use Rattle.std.proofs.Common.{rules, sym, ap, ◌∙◌, replicate}
use mir.Facts.{to_z-of_z}
use Rattle.subdivision.specs.Limits.{max_examined}
use Rattle.subdivision.specs.Sheet.{Sheet}
use Rattle.subdivision.specs.Accepted.{Accepted}
use Rattle.subdivision.specs.Engine.{HoldsIndex}
use Rattle.subdivision.specs.Calls.{reading, searching}
use Rattle.subdivision.specs.Results.{Search, reply_of}
use Rattle.tables.specs.Lent.{lent}
use Rattle.theory.proofs.ThirdDemand.{searched_is_read_everywhere}
use Rattle.theory.proofs.Dyadic.{few_edges}
use Rattle.placing.proofs.placed_sheet.find.Goals as goal

-- the search's reply is the reading's
replied : (s : Sheet) (index : List ℕ) (x y : ℤ) → Accepted s → HoldsIndex s index → (f : Search) → f ≡ (searching s index x y (replicate max_examined 0)).found → reply_of f ≡ reading s x y
replied s index x y a h f e =
    ap reply_of e ∙ searched_is_read_everywhere s index x y (replicate max_examined 0) a h (few_edges s.zones a.counts.1.1.1)

pub returns-in_err-found : goal.returns-in_err-found
returns-in_err-found c =
    let a = c.args in
    let s = lent a.sheet in
    let e = replied s a.index.now a.x a.y c.requires.0 c.requires.1 _ (c.search_point.ensures.found ∙ (λ i. (searching s a.index.now (to_z-of_z c.ranges.x i) (to_z-of_z c.ranges.y i) (replicate max_examined 0)).found)) in
    let p : reply_of c.search_point.result ≡ c.from_residual.result = ap reply_of c.in_err-found.was ∙ search rules in
    sym p ∙ e

pub returns : goal.returns
returns c =
    let a = c.args in
    let s = lent a.sheet in
    let e = replied s a.index.now a.x a.y c.requires.0 c.requires.1 _ (c.search_point.ensures.found ∙ (λ i. (searching s a.index.now (to_z-of_z c.ranges.x i) (to_z-of_z c.ranges.y i) (replicate max_examined 0)).found)) in
    sym (ap reply_of c.in_ok-found.was) ∙ e
