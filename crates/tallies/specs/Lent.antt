-- Samples as they are lent, as the definitions of document 02 speak of them.
use Rattle.ledger.specs.Months.{Samples, samples_of}
use Rattle.tallies.specs.declared.LentSamples.{LentSamples}

-- the samples of lent points, kinds and values
abbrev pub lent_samples : LentSamples → Samples
lent_samples t = samples_of t.points.now t.kinds.now t.values.now
