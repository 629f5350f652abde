pub mod EventLemmas
pub mod LogLemmas
pub mod Moments
