pub mod Entries
pub mod Filled
pub mod Log
pub mod Payloads
pub mod Plain
pub mod Reading
pub mod Spots
pub mod Stages
