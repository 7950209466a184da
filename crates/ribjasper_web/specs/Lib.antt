pub mod Shown
pub mod Packs
