pub mod Reports
pub mod SheetRows
pub mod PictureRows
pub mod Discs
