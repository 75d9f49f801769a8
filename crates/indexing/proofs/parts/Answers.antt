-- Each part is written where the one before it ends.
use Rattle.indexing.proofs.Written.{parts_put}
use Rattle.indexing.proofs.parts.Goals as goal

pub returns : goal.returns
returns c =
    parts_put _ _ _ _ _ _ _ _ _ _ _ _ _ c.requires.place_len.0 c.requires.place_len.1
    c.place_word.ensures c.zone_word.ensures c.start_word.ensures c.entry_word.ensures
    c.write.ensures c.write-2.ensures c.write-3.ensures c.write-4.ensures
