pub mod DisputeLemmas
pub mod PartingLemmas
pub mod MissingLemmas
pub mod LegalLemmas
pub mod FrameLemmas
pub mod SigningLemmas
pub mod BegunLemmas
pub mod SealLemmas
pub mod PlanLemmas
pub mod ListedLemmas
pub mod FormLemmas
pub mod FollowLemmas
mod OwnLinkLemmas
