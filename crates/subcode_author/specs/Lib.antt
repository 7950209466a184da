pub mod Given
pub mod Authored
pub mod Inputs
pub mod Stops
pub mod AuthorAnswer
pub mod Calls
pub mod Requests
