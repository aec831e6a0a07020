pub mod RunRecords
pub mod RunLines
pub mod Lines
pub mod Programs
pub mod ChangedItems
