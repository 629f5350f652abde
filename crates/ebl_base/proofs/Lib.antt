pub mod CarrierLemmas
mod SegmentLemmas
mod PartyLemmas
pub mod SameLemmas
pub mod FaultsLemmas
pub mod CallsLemmas
pub mod TextLemmas
pub mod ChecksumLemmas
pub mod AnswerLemmas
pub mod FormLemmas
