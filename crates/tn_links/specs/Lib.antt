-- The files of definitions of this crate.
pub mod Widths
pub mod Links
pub mod Flows
pub mod Lots
pub mod Near
pub mod Totals
pub mod Laws
pub mod Rounds
pub mod Shown
pub mod ShownLemmas
pub mod RiseLemmas
pub mod LotLemmas
