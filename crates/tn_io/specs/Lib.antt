-- What reading and writing mean.
pub mod Counts
pub mod Source
pub mod Sink
pub mod Ends
pub mod Lines
pub mod StdEnds
