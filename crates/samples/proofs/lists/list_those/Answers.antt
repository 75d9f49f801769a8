use Rattle.std.proofs.Common.{◌≡◌, ◌<◌, arith, sym, ap, ◌∙◌, [], ◌∷◌, length, length-append}
use Rattle.std.proofs.Math.ListN.{set}
use Rattle.subdivision.specs.Lists.{put}
use Rattle.ledger.specs.Months.{those}
use Rattle.theory.proofs.Written.{put_next}
use Rattle.accounting.proofs.Those.{those_with, those_without}
use Rattle.samples.specs.Spots.{lies_at}
use Rattle.samples.proofs.Spots.{lies_is}
use Rattle.samples.proofs.lists.list_those.Goals.{then-eq, else-eq}
use Rattle.samples.proofs.lists.list_those.Goals as goal

pub loop-k-preserved : goal.loop-k-preserved
loop-k-preserved c =
    let l = c.loop-k in
    let list = c.args.list.now in
    let test = lies_at c.args.places.now c.args.spot in
    let tested : c.eq.result ≡ test l.k = c.eq.ensures ∙ lies_is c.args.places.now c.args.spot l.k in
    let before = those test l.k in
    let room : length before < length list = omega (arith, l.invariant.few, l.invariant.counted) in
    elim c.if-eq.branch [
      | then-eq w ↦
          let more = those_with test l.k (sym tested ∙ w.if-eq.true) in record {
            few = omega arith;
            counted = omega (arith, ap length more, length-append before (l.k ∷ []));
            written =
                w.list-is
                ∙ (λ i. set (l.invariant.written i) (l.invariant.counted i) l.k)
                ∙ put_next before list l.k room
                ∙ ap (λ q. put q list) (sym more);
          }
      | else-eq w ↦
          let same = those_without test l.k (sym tested ∙ w.if-eq.false) in record {
            few = omega arith;
            counted = w.count-is ∙ l.invariant.counted ∙ ap length (sym same);
            written = w.list-is ∙ l.invariant.written ∙ ap (λ q. put q list) (sym same);
          }
    ]
