pub mod ClockLemmas
pub mod SinkLemmas
pub mod SourceLemmas
