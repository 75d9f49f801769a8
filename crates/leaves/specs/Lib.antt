-- What the exported functions promise beyond the definitions of `subdivision`.
pub mod Flags
pub mod Repeated
