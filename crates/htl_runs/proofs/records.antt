pub mod ReleasedBefore
pub mod DoneBefore
pub mod SMachineInstants
pub mod DueRecords
pub mod RecordSteps
pub mod InstantRecords
