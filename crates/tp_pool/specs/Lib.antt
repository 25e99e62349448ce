pub mod Entries
pub mod Nodes
pub mod Inside
pub mod Queues
pub mod Linked
pub mod QueueGrowth
