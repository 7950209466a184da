pub mod Interleave
pub mod Gathering
pub mod Spreading
pub mod Windows
pub mod Stream
pub mod Texts
