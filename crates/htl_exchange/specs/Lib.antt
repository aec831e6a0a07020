pub mod Exchange
pub mod Laws
pub mod Reached
pub mod Texts
