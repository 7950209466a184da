pub mod Differing
pub mod TrialLines
pub mod Trial
pub mod Replay
pub mod Course
pub mod ReportLines
pub mod TrialSheet
