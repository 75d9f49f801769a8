-- Laws of what is held while circles are looked for.
pub mod Queued
pub mod Walked
