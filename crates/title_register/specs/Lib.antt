pub mod Standing
pub mod PlaceRef
pub mod Past
pub mod BillState
pub mod Frames
pub mod Kept
pub mod Register
