mod RegisterLemmas
mod StateLemmas
mod FrameLemmas
mod RoomLemmas
mod KnownLemmas
mod LookUpLemmas
mod PastLemmas
mod AddLemmas
mod ChangeLemmas
pub mod FoundLemmas
mod BytesLemmas
