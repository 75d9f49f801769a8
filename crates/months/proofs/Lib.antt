-- Laws of a month as it is judged: line by line of its refusals, by where its samples lie, and its promises.
pub mod Lines
pub mod Month
pub mod Promised
pub mod Spots
