use Rattle.std.proofs.Common.{◌≡◌, arith, sym, ap, ◌∙◌, [], ◌∷◌}
use Rattle.ledger.specs.Tallies.{none_entered, enter, entering}
use Rattle.ledger.specs.Months.{reading_at}
use Rattle.accounting.proofs.Entering.{enter_adds}
use Rattle.accounting.proofs.Those.{those_with, those_without, entering_append}
use Rattle.ledger.specs.Months.{those}
use Rattle.samples.specs.Room.{samples_in}
use Rattle.std.specs.Prelude.{Bool, ℕ, eqb, get_or}
use Rattle.std.proofs.lemmas.Bool.{eq-eqb, ne_eqb}
use Rattle.samples.proofs.zones.tally_zone.Goals.{then-numbers-k, else-numbers-k}
use Rattle.samples.proofs.zones.tally_zone.Goals as goal

pub loop-k-preserved : goal.loop-k-preserved
loop-k-preserved c =
    let l = c.loop-k in
    let t = samples_in c.args.samples in
    let numbers = c.args.numbers.now in
    let test : ℕ → Bool = λ i. eqb (get_or numbers i 0) c.args.z in
    elim c.if-numbers-k.branch [
      | then-numbers-k w ↦
          let so : c.if-numbers-k.tally ≡ enter l.tally (reading_at t l.k) = w.tally-is ∙ w.enter-tally.ensures ∙ ap (enter l.tally) w.reading.ensures in
          let adds = enter_adds l.tally (reading_at t l.k) in record {
            entered =
                so
                ∙ ap (λ u. enter u (reading_at t l.k)) l.invariant.entered
                ∙ sym (entering_append (reading_at t) none_entered (those test l.k) (l.k ∷ []))
                ∙ ap (entering (reading_at t) none_entered) (sym (those_with test l.k (eq-eqb (get_or numbers l.k 0) c.args.z w.if-numbers-k.true)));
            few = omega (arith, ap (λ u. u.count) so, adds.0, l.invariant.few);
            fewer = omega (arith, ap (λ u. u.below) so, adds.1, l.invariant.fewer);
          }
      | else-numbers-k w ↦ record {
        entered =
            w.tally-is
            ∙ l.invariant.entered
            ∙ ap (entering (reading_at t) none_entered) (sym (those_without test l.k (ne_eqb (get_or numbers l.k 0) c.args.z w.if-numbers-k.false)));
        few = omega (arith, ap (λ u. u.count) w.tally-is, l.invariant.few);
        fewer = omega (arith, ap (λ u. u.below) w.tally-is, l.invariant.fewer);
      }
    ]
