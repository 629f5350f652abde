pub mod FrameLemmas
pub mod ReadLemmas
pub mod StageLemmas
