pub mod Agreement
pub mod Elimination
pub mod Places
pub mod Windows
pub mod Merging
pub mod Readings
pub mod Steps
