pub mod DigestBytes
pub mod Digits
pub mod Texts
pub mod Pairs
pub mod ReadTexts
