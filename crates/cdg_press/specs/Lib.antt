pub mod Pressed
pub mod Refusals
pub mod Stops
pub mod Written
pub mod Thin
pub mod Steps
pub mod Calls
