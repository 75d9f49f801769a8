-- What the functions of `geometry` promise beside document 01.
pub mod Crossing
pub mod Bounds
