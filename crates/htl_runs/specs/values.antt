pub mod InstantEffects
pub mod Values
pub mod FinishedJobs
pub mod PhaseEffects
pub mod ShownValues
