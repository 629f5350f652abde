pub mod TestLemmas
pub mod HoldingLemmas
pub mod PartingLemmas
pub mod EnvelopeLemmas
pub mod ReceivingLemmas
pub mod FrameLemmas
