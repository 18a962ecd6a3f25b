-- The files of definitions of this crate.
pub mod Limits
pub mod Claims
pub mod Greatest
pub mod Least
pub mod Outcomes
pub mod Plans
pub mod Reasons
pub mod Replays
pub mod Terms
pub mod RefutedLaw
