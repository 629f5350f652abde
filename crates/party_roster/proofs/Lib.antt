mod DistinctLemmas
mod IndexLemmas
mod ListLemmas
pub mod FormLemmas
pub mod WritingLemmas
mod PlaceLemmas
pub mod CarrierLemmas
