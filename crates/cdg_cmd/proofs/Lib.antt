mod AuthorStatus
mod AuthorReported
pub mod Commands
mod Decimals
mod Ended
mod FourWords
pub mod FirstHalf
mod LastWords
mod LateReported
mod LineWords
pub mod Listings
mod MergeReported
pub mod Merged
mod Played
mod PressReported
mod PressedBack
mod PressedShown
pub mod Performed
mod Pumped
mod Quiet
mod ResumeReported
mod ResumedWhole
mod SaveReported
pub mod SecondHalf
mod Statuses
mod StreamWords
pub mod TextReads
pub mod TextStops
mod ThinReported
mod Thinning
pub mod Reported
mod TurnRuns
mod Allocations
pub mod WholeInputs
mod Written
