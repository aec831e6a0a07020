pub mod BulkEvents
pub mod BulkTree
