pub mod Sink
pub mod MemorySource
pub mod MemorySink
pub mod BoundedSink
pub mod MemoryLink
pub mod Counted
pub mod Clock
