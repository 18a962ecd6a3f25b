-- The files of definitions of this crate.
pub mod Words
pub mod Faults
pub mod Claim
pub mod ClaimLimits
pub mod Edits
