pub mod AskingLemmas
pub mod BesideLemmas
pub mod ClosingLemmas
pub mod OfficeLemmas
pub mod OpeningLemmas
