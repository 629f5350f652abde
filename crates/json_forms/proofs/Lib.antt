mod ReadingLemmas
pub mod ListLemmas
pub mod ReadForms
pub mod RoundTrips
pub mod LengthLemmas
pub mod BytesLemmas
