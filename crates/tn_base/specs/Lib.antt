-- The files of definitions of this crate.
pub mod Sets
pub mod Firm
pub mod Exchange
pub mod Table
pub mod Widths
pub mod Arcs
pub mod ArcLemmas
pub mod Options
pub mod Walks
pub mod Ticks
pub mod SetLaws
pub mod TableLaws
pub mod ExchangeLaw
pub mod Limbs
pub mod LimbLemmas
pub mod Every
