use Rattle.std.proofs.Common.{arith, sym, ap, ◌∙◌, below_more, length}
use Rattle.std.proofs.Math.ListN.{set}
use Rattle.subdivision.specs.Lists.{tab, put}
use Rattle.theory.proofs.Lowest.{search_ends, first_at, first_nowhere}
use Rattle.theory.proofs.Written.{put_tab_start, put_tab_next}
use Rattle.tables.specs.Lent.{lent}
use Rattle.samples.specs.Room.{samples_in}
use Rattle.samples.specs.Spots.{found_spot, spot_in, nowhere}
use Rattle.samples.proofs.places.place_samples.Goals as goal

pub loop-k-init : goal.loop-k-init
loop-k-init c = record { passed = λ i h. absurd (omega arith); written = put_tab_start _ _ }

pub loop-k-preserved : goal.loop-k-preserved
loop-k-preserved c =
    let l = c.loop-k in
    let at = found_spot (lent c.args.sheet) c.args.index.now (samples_in c.args.samples) in record {
      passed = below_more _ _ l.invariant.passed (sym (ap nowhere c.in-Some.ensures));
      written =
          (λ i. set (l.invariant.written i) l.k (ap spot_in c.in-Some.ensures i))
          ∙ put_tab_next (λ i. spot_in (at i)) c.args.places.now l.k (omega arith);
    }

pub returns-in_default-clause-value : goal.returns-in_default-clause-value
returns-in_default-clause-value c =
    let at = found_spot (lent c.args.sheet) c.args.index.now (samples_in c.args.samples) in
    first_at (λ k. nowhere (at k)) (length c.args.samples.kinds.now) c.loop-k.k (omega arith) (sym (ap nowhere c.in_default.ensures)) c.loop-k.invariant.passed

pub returns-in_default-clause-places_after : goal.returns-in_default-clause-places_after
returns-in_default-clause-places_after c =
    let l = c.loop-k in
    let at = found_spot (lent c.args.sheet) c.args.index.now (samples_in c.args.samples) in
    l.invariant.written
    ∙ ap (λ q. put (tab (λ i. spot_in (at i)) q) c.args.places.now)
    (search_ends (λ k. nowhere (at k)) (length c.args.samples.kinds.now) l.k (omega arith, l.invariant.passed) (λ h. sym (ap nowhere c.in_default.ensures)))

pub returns-clause-value : goal.returns-clause-value
returns-clause-value c =
    let at = found_spot (lent c.args.sheet) c.args.index.now (samples_in c.args.samples) in
    first_nowhere (λ k. nowhere (at k)) (length c.args.samples.kinds.now) (λ k h. c.loop-k.invariant.passed k (omega arith))

pub returns-clause-places_after : goal.returns-clause-places_after
returns-clause-places_after c =
    let l = c.loop-k in
    let at = found_spot (lent c.args.sheet) c.args.index.now (samples_in c.args.samples) in
    l.invariant.written
    ∙ ap (λ q. put (tab (λ i. spot_in (at i)) q) c.args.places.now)
    (search_ends (λ k. nowhere (at k)) (length c.args.samples.kinds.now) l.k (omega arith, l.invariant.passed) (λ h. absurd (omega arith)))
