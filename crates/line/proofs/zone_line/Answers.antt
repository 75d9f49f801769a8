-- The words counted are those of a line with no zone in it, and the words that `place_zones` leaves tell the zones left.
use Rattle.std.proofs.Common.{◌≡◌, ◌∙◌, ap, sym, not, [], ℕ, length}
use Rattle.subdivision.specs.Limits.{max_zones}
use Rattle.subdivision.specs.Formula.{holds}
use Rattle.subdivision.specs.Lists.{tab}
use Rattle.subdivision.specs.Lowest.{first}
use Rattle.subdivision.specs.ZoneLine.{is_in, zone_line}
use Rattle.theory.proofs.Lists.{zeros_part}
use Rattle.line.specs.Waiting.{zones_of, wait_of}
use Rattle.line.proofs.Waiting.{words_first, first_left_is}
use Rattle.line.proofs.zone_line.Goals as goal

pub place_zones-requires-clause-waits_value : goal.place_zones-requires-clause-waits_value
place_zones-requires-clause-waits_value c =
    let edges = c.args.edges.now in
    let order = c.by_zone_below.new.order in
    c.count_under.ensures ∙ words_first edges order _ ∙ ap (tab (wait_of edges order [])) (sym c.count_under.auto.waits)

pub returns-clause-left : goal.returns-clause-left
returns-clause-left c =
    let edges = c.args.edges.now in
    let n = length c.count_under.new.waits in
    let long : n ≡ c.args.zones = c.count_under.auto.waits ∙ sym (zeros_part max_zones c.args.zones c.requires.0.1) in
    c.first_left.ensures ∙ first_left_is edges c.by_zone_below.new.order (zone_line (zones_of edges n)) c.place_zones.new.waits n c.place_zones.ensures.words ∙ ap (λ (k : ℕ). first (λ z. not (holds (is_in z (zone_line (zones_of edges k))))) k) long
