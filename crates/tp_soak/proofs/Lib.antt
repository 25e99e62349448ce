mod EngineFacts
mod MachineFacts
mod ScriptFacts
pub mod AnsweredEvents
pub mod Counted
mod CountedLines
