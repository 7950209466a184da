pub mod Readers
pub mod Good
pub mod Stepping
pub mod Reading
pub mod LineBytes
pub mod SaidRanges
pub mod AcceptedLines
pub mod SheetTexts
