pub mod Players
pub mod Ran
pub mod Refused
pub mod Undamaged
