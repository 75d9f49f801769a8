-- Definitions that the contracts of the probes cite.
pub mod Margins
pub mod Asked
pub mod Judged
