pub mod Standing
pub mod Memory
pub mod Columns
pub mod Texts
pub mod Touched
