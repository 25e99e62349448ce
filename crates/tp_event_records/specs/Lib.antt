pub mod RecordNames
pub mod Spans
