-- The files of lemmas of this crate.
pub mod Decided
pub mod Finite
pub mod Deal
pub mod Checked
pub mod Supported
pub mod Judged
pub mod Replayed
pub mod Solved
pub mod Tested
pub mod Trees
pub mod Readings
pub mod Answered
pub mod Cases
pub mod Passed
