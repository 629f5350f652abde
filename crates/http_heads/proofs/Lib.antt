pub mod LengthLemmas
pub mod ScanLemmas
pub mod PlanLemmas
