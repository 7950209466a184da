pub mod Codes
pub mod Counts
pub mod EndedWords
pub mod Sums
pub mod Tallies
