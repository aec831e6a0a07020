mod LimitRows
pub mod Firsts
pub mod Places
pub mod Numbers
pub mod Options
pub mod Tests
pub mod Words
