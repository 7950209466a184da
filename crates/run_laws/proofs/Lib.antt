mod Accepted
mod Clean
mod FedStreams
mod HeldScreens
mod Refusals
mod SaveCalls
mod Scratched
mod SecondFaults
pub mod Streams
