-- What the judgement leaves.
pub mod Judgement
