pub mod RowLaws
mod Tracks
