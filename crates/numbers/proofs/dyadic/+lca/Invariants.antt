-- The measure is the higher place.
use Rattle.numbers.proofs.dyadic.+lca.Given as goal

abbrev pub decreases-lca : goal.decreases-lca
decreases-lca l = l.j
