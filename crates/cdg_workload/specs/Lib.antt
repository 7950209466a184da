pub mod Generator
pub mod Script
pub mod Pictures
pub mod Scratches
pub mod Steps
pub mod Generated
