use Rattle.std.proofs.Common.{◌≡◌, ◌*◌, ◌<◌, ap, ◌∙◌, length, arith}
use Rattle.subdivision.specs.Lists.{over}
use Rattle.ledger.specs.Tallies.{judge, write_mean}
use Rattle.samples.specs.Room.{samples_in}
use Rattle.samples.specs.Zones.{zone_words, tally_by}
use Rattle.samples.proofs.ZoneWords.{by_numbers, words_next, means_next}
use Rattle.samples.proofs.zones.judge_zones.Goals as goal

pub loop-z-preserved : goal.loop-z-preserved
loop-z-preserved c =
    let a = c.args in
    let l = c.loop-z in
    let t = samples_in a.samples in
    let tally = c.tally_zone-tally in
    let judgement = c.judge-judgement in
    let few : l.z < 4294967295 = omega arith in
    let tallied : tally.result ≡ tally_by t a.places.now l.z (length a.places.now) = tally.ensures ∙ by_numbers t a.places.now _ l.z few c.number_zones.ensures in
    let judged = judgement.ensures ∙ ap (λ p. judge p tally.result) c.of.ensures in record {
      words =
          c.write_words.ensures
          ∙ ap (λ r. over (zone_words tally.result judgement.result) r (3 * l.z)) l.invariant.words
          ∙ words_next t a.places.now a.permits.words.now l.z a.results.now _ _ tallied judged;
      means =
          c.write_mean.ensures
          ∙ ap (λ m. write_mean judgement.result m l.z) l.invariant.means
          ∙ means_next t a.places.now a.permits.words.now l.z a.means.now _ _ tallied judged;
    }
