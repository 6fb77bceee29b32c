mod Alike
mod AllTaken
mod Asking
mod Audits
mod Honest
mod LastKinds
mod Lines
pub mod Sending
mod Spaces
mod Steps
