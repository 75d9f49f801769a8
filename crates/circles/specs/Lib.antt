-- What the functions of `circles` ask and keep.
pub mod Looking
pub mod Named
