-- Theorems of worked cases that rest on other theorems.
pub mod WorkedOrder
