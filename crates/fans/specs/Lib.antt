-- What the functions of `fans` compute.
pub mod Fans
