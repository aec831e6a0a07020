pub mod Cutting
mod Examples
pub mod FirstFault
pub mod Found
pub mod Fronts
pub mod AtPlaces
pub mod Keeping
pub mod Lengths
pub mod Numbers
pub mod OneCut
pub mod Parts
pub mod Reprinted
pub mod Sizes
pub mod Skipping
pub mod Spellable
pub mod WordBytes
pub mod Writing
pub mod Words
