-- The files of definitions of this crate.
pub mod Limits
pub mod Network
pub mod NetworkLaws
pub mod InOrder
pub mod Prices
pub mod Choices
pub mod OutcomeLimits
