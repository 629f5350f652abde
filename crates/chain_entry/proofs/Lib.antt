pub mod RoundTrips
pub mod CanonicalForms
pub mod LengthLemmas
