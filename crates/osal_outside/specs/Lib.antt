pub mod Causes
pub mod Shelf
pub mod Sink
pub mod Plan
pub mod Memory
pub mod MemShelf
pub mod MemSink
pub mod Host
