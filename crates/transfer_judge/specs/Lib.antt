pub mod Dispute
pub mod Judgement
pub mod Legal
pub mod Sealing
pub mod Plan
pub mod PlannedTexts
