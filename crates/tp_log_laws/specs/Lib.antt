pub mod AcceptedEntries
pub mod EntryTurns
