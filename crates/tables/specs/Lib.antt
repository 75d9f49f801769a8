-- Definitions that the contracts of the tables cite.
pub mod Known
pub mod Lent
