use Rattle.std.proofs.Common.{length, get_or, arith}
use Rattle.theory.proofs.Lists.{is_tab}
use Rattle.samples.specs.declared.Spot.{Spot}
use Rattle.samples.specs.Spots.{zone_number}
use Rattle.samples.proofs.zones.number_zones.Goals as goal

pub returns : goal.returns
returns c =
    is_tab (λ k. zone_number (get_or c.args.places.now k Spot.Untaken)) 0 c.loop-k.numbers (length c.args.places.now) (omega arith) (λ k h. c.loop-k.invariant k (omega arith))
