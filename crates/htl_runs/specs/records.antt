pub mod SMachineStands
pub mod DueRecords
pub mod RecordSteps
