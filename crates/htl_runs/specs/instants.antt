pub mod Releases
pub mod ReleaseFlags
pub mod InstantParts
