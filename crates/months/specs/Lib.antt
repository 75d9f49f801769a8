-- A month's refusals in two parts.
pub mod Lines
