-- The files of lemmas of this crate.
pub mod NetworkLemmas
pub mod InOrderLemmas
pub mod InOrderNetworks
pub mod ContractLemmas
pub mod LimitLemmas
