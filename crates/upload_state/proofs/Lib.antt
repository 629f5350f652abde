pub mod WantedLemmas
pub mod ReferenceLemmas
pub mod StartedLemmas
