pub mod OpeningLemmas
pub mod RegisterLemmas
pub mod SettlingLemmas
pub mod ShardLemmas
pub mod WrittenLemmas
