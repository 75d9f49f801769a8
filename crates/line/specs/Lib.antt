-- What the functions of `line` promise.
pub mod Grouped
pub mod Waiting
