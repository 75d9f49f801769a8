-- Where the samples of a month lie, what a month leaves by that, and the samples as they are kept.
pub mod Doubles
pub mod Room
pub mod Spots
pub mod Zones
