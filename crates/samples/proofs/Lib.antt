-- Laws of a month by where its samples lie.
pub mod Spots
pub mod ZoneWords
