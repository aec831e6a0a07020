pub mod Plans
pub mod SelectionInput
pub mod SelectionReaders
