pub mod FrameLines
pub mod Slots
pub mod SheetLines
pub mod Damage
pub mod Answers
pub mod Damaged
pub mod Pictured
