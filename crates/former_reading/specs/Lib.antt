pub mod Former
