pub mod Laws
pub mod Rows
pub mod Joined
pub mod Reading
pub mod Putting
