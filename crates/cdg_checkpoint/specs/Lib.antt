pub mod Table
pub mod Checkpoint
pub mod Reading
pub mod Tracked
pub mod Saved
pub mod Keeping
pub mod Resumed
