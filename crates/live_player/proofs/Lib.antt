pub mod LiveViews
pub mod Words
pub mod Pictures
pub mod Small
pub mod Slots
pub mod Saved
pub mod Saves
mod PairBytes
mod Rows
mod Kept
pub mod Seen
mod Idle
mod Quiet
mod TilePacks
mod Parities
mod Places
pub mod Drops
