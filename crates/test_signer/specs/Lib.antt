pub mod Hmac
pub mod Keys
pub mod KeyedRing
pub mod FailingRing
