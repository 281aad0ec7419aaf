pub mod Laws
pub mod Spelling
pub mod Longest
pub mod Unique
pub mod Steps
pub mod Laid
pub mod Total
