pub mod View
pub mod Rule
pub mod Steps
pub mod Pass
pub mod Turn
