pub mod Laws
pub mod Nots
pub mod Levels
pub mod Reading
pub mod One
pub mod Total
