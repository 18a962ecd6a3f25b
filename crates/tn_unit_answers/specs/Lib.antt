-- The files of definitions of this crate.
pub mod Solve
pub mod Steps
pub mod Range
pub mod Said
pub mod Support
pub mod Bundles
pub mod Judged
pub mod Check
pub mod Firms
pub mod Session
pub mod Standing
