mod RunLemmas
mod LinkLemmas
mod EntryLemmas
mod PassLemmas
mod DestinationLemmas
mod MeetingLemmas
mod CheckLemmas
pub mod GoodChainLemmas
pub mod NameLemmas
mod ExclusionLemmas
pub mod OneRefusal
mod KnownLemmas
