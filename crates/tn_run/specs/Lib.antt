-- The files of definitions of this crate.
pub mod Status
pub mod Words
pub mod Request
pub mod Drilled
pub mod Answer
pub mod Run
pub mod Cases
pub mod Saying
pub mod Complete
pub mod Headline
pub mod Lined
