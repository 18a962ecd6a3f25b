-- The files of definitions of this crate.
pub mod Units
pub mod Exchange
pub mod Outcomes
pub mod Laws
