mod Apart
mod Walking
mod Places
mod EntryLaws
mod ListLaws
mod Examples
mod LimitLaws
mod RuleLaws
pub mod FlatMaps
pub mod InRange
pub mod KeepsLimits
mod SymbolLaws
mod NameUses
mod Ordering
mod Refinements
mod TreeLevels
pub mod Members
mod ModulePlaces
mod Numbered
pub mod OneFault
mod Searches
mod Reaching
pub mod SmallFunctions
pub mod TreeBounds
pub mod Words
