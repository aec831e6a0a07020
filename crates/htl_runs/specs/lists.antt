pub mod StandingLists
pub mod RecordEffects
pub mod RunLists
pub mod ListLengths
pub mod FirstStand
pub mod NextLists
pub mod NextSMachines
