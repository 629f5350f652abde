pub mod FormLemmas
pub mod PieceLemmas
pub mod BodyLemmas
pub mod ManifestLemmas
pub mod WholeBodies
pub mod ReadBodies
mod DepthLemmas
pub mod LengthLemmas
