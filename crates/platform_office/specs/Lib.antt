pub mod Answered
pub mod Asked
pub mod Closed
pub mod Office
pub mod Opening
pub mod Post
pub mod Served
