-- Definitions that the contracts of the descent cite.
pub mod Steps
