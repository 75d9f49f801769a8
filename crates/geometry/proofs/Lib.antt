-- Laws that more than one proof of `geometry` cites.
pub mod Bounds
pub mod Crossing
