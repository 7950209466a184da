pub mod Blocks
pub mod Framing
pub mod Given
pub mod SheetTexts
pub mod Needs
pub mod Stops
