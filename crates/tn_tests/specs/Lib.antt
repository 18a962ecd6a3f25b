-- The files of definitions of this crate: a market and a graph that the tests ask.
pub mod Stall
pub mod StallLemmas
pub mod Ring
pub mod RingLemmas
