-- The files of definitions of this crate.
pub mod Held
pub mod Residual
pub mod Surplus
