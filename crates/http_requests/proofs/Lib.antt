pub mod AskedLemmas
pub mod CutLemmas
pub mod ReadingLemmas
