pub mod CueSheet
pub mod Views
pub mod CueLines
pub mod Grammar
pub mod Steps
pub mod Answers
pub mod SheetBytes
pub mod Judging
