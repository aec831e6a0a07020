pub mod Fronts
pub mod Fetches
pub mod Puts
pub mod Under
