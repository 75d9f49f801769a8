use Rattle.std.proofs.Common.{◌≡◌, ◌∙◌, refl, [], ◌∷◌, append-nil, arith}
use Rattle.std.specs.Iterator.Adapters.{rev_source, enumerate_source}
use Rattle.std.specs.Slice.Iter.{iter_rest}
use Rattle.indexing.proofs.Placing.{placing_down, placing_end, placing_whole}
use Rattle.indexing.proofs.places.Goals as goal

pub loop-p-init : goal.loop-p-init
loop-p-init c =
    let all : iter_rest (enumerate_source (rev_source c.into_iter-p-iterator.result)) ≡ c.args.line.now = cc in
    ([], rw (all, append-nil c.args.line.now), refl, cc)

pub loop-p-preserved : goal.loop-p-preserved
loop-p-preserved c =
    let i = c.loop-p.invariant in
    let h = c.in-Some.ensures.steps in
    let next = placing_down _ _ _ i.0 _ _ c.in-Some.z.now c.in-Some.p i.1 h.1.0 (omega (arith, h.1.1, i.3)) i.2 in
    (c.in-Some.z.now ∷ i.0, next.0, c.store.ensures ∙ next.1, h.0 ∙ i.3)

pub returns : goal.returns
returns c =
    let i = c.loop-p.invariant in
    placing_end _ _ i.0 c.args.place.now _ i.1 c.in-None.ensures.steps.1.0 i.2 ∙ placing_whole c.args.line.now c.args.place.now
