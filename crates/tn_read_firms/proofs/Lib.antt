-- The files of lemmas of this crate.
pub mod RowLemmas
pub mod FullLemmas
pub mod FailureLemmas
pub mod FirmLemmas
pub mod TableLeads
pub mod SoundLemmas
pub mod LaminarLeads
pub mod MiddleLeads
pub mod DealerLeads
pub mod DealerStops
pub mod KindLemmas
pub mod FirmLeads
pub mod ShownLemmas
pub mod FirmStops
pub mod OwnLemmas
pub mod RoomLemmas
