pub mod Records
pub mod Headings
pub mod Grammar
pub mod LogLines
pub mod Logs
pub mod GatheredItems
pub mod RecordReaders
