pub mod ContentLengths
pub mod ReadingLengths
pub mod MemberLengths
pub mod SettlementLemmas
pub mod PartedLengths
pub mod RoomLemmas
