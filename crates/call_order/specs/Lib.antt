pub mod Heads
pub mod Kinds
pub mod QueueLists
pub mod QueuedCalls
