-- Each step leads where the turn of the defined descent leads.
use Rattle.std.proofs.Common.{◌≡◌, List, ℕ, Option, Some, Ok, sym, ap, ◌∙◌, subst, arith}
use Rattle.std.proofs.Math.ListN.{set}
use Rattle.subdivision.specs.declared.Answer.{Answer}
use Rattle.subdivision.specs.declared.Found.{Found}
use Rattle.subdivision.specs.Results.{Search}
use Rattle.subdivision.specs.Descent.{turn}
use Rattle.theory.proofs.Dyadic.{few_edges}
use Rattle.probes.specs.declared.Query.{Query}
use Rattle.probes.specs.Asked.{asked, looked_up}
use Rattle.descent.specs.declared.Descent.{Descent}
use Rattle.descent.specs.declared.Step.{Step}
use Rattle.descent.proofs.Steps.{Follows}
use Rattle.descent.proofs.Descending.{ReachedIn, Ended, Leads, start_reached, step_allowed, step_leads, arrived_ended}
use Rattle.descent.proofs.descend.Goals as goal

-- where the step leads that was taken
leads : (q : Query) {d : Descent} {array : List ℕ} {r : Option Step} {taken t : Step} → ReachedIn q d array → Follows q d (turn (asked q) (looked_up q) q.x q.y) r
    → r ≡ Some taken → taken ≡ t → Leads q d array (Some t)
leads q {d} {array} {r} reached f some same = subst (Leads q d array) (some ∙ ap Some same) (step_leads q d array reached r f)

pub loop-d-init : goal.loop-d-init
loop-d-init c =
    let q = c.args.query.now in
    subst (λ (d : Descent). ReachedIn q d c.args.trail.now) (sym c.new-d.ensures) (start_reached (asked q) q.index.now q.x q.y c.args.trail.now c.requires.0.0 (omega (arith, few_edges q.zones c.requires.0.1)))

pub step-requires-clause-edges_len_bound : goal.step-requires-clause-edges_len_bound
step-requires-clause-edges_len_bound c =
    let q = c.args.query.now in
    (c.requires.1, (step_allowed (asked q) q.index.now q.x q.y c.loop-d.d c.loop-d.trail c.loop-d.invariant c.requires.0.1 c.requires.1).1)

pub loop-d-smaller-in-Son : goal.loop-d-smaller-in-Son
loop-d-smaller-in-Son c =
    (leads c.args.query.now c.loop-d.invariant (c.step.ensures.turned, c.step.ensures.counted) c.in_ok-next.ensures.ok_part c.in-Son.is).0

pub loop-d-preserved-in-Son : goal.loop-d-preserved-in-Son
loop-d-preserved-in-Son c =
    (leads c.args.query.now c.loop-d.invariant (c.step.ensures.turned, c.step.ensures.counted) c.in_ok-next.ensures.ok_part c.in-Son.is).1

pub bounds-trail-d : goal.bounds-trail-d
bounds-trail-d c =
    let q = c.args.query.now in
    let to = leads q c.loop-d.invariant (c.step.ensures.turned, c.step.ensures.counted) c.in_ok-next.ensures.ok_part c.in-Past.is in
    omega (arith, to.0, few_edges q.zones c.requires.0.1)

pub loop-d-smaller : goal.loop-d-smaller
loop-d-smaller c =
    (leads c.args.query.now c.loop-d.invariant (c.step.ensures.turned, c.step.ensures.counted) c.in_ok-next.ensures.ok_part c.in-Past.is).1.0

pub loop-d-preserved : goal.loop-d-preserved
loop-d-preserved c =
    (leads c.args.query.now c.loop-d.invariant (c.step.ensures.turned, c.step.ensures.counted) c.in_ok-next.ensures.ok_part c.in-Past.is).1.1

pub bounds-trail-d-in-On : goal.bounds-trail-d-in-On
bounds-trail-d-in-On c =
    let q = c.args.query.now in
    let to = leads q c.loop-d.invariant (c.step.ensures.turned, c.step.ensures.counted) c.in_ok-next.ensures.ok_part c.in-On.is in
    omega (arith, to.0, few_edges q.zones c.requires.0.1)

pub returns-in-On : goal.returns-in-On
returns-in-On c =
    let found = c.found.ensures ∙ ap (λ (a : Answer). record { answer = a; examined = c.in-On.last.examined; probes = c.in-On.last.probes }) c.answer_on.ensures in
    let to = leads c.args.query.now c.loop-d.invariant (c.step.ensures.turned, c.step.ensures.counted) c.in_ok-next.ensures.ok_part c.in-On.is in
    let ended = subst (λ (f : Found). Ended c.args.query.now (Ok f) (set c.loop-d.trail c.loop-d.d.examined c.in-On.e)) (sym found) to.1 in
    record { found = ended.0; listed = ended.1 }

pub returns : goal.returns
returns c =
    let q = c.args.query.now in
    let ended = subst (λ (f : Search). Ended q f c.loop-d.trail) (sym c.arrive.ensures) (arrived_ended q c.loop-d.d c.loop-d.trail c.loop-d.invariant c.loop-d-test.false) in
    record { found = ended.0; listed = ended.1 }
