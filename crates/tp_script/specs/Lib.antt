pub mod Form
pub mod Verbs
pub mod Script
pub mod EventReaders
pub mod Printed
pub mod Lines
