pub mod Places
pub mod LineSteps
pub mod WordSteps
pub mod NumberSteps
pub mod Times
pub mod ReadOn
