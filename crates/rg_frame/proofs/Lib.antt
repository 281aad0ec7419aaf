pub mod FrameLaws
pub mod FrameLists
pub mod Gates
pub mod Laws
pub mod Listing
pub mod Looked
pub mod Payloads
pub mod Runs
