pub mod Answers
pub mod Laws
pub mod Program
pub mod Status
pub mod Texts
