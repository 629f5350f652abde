pub mod FormLemmas
pub mod RoundTrips
pub mod CanonicalForms
