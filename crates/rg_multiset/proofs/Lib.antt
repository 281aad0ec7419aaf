mod Counting
pub mod Laws
pub mod Places
pub mod Kept
mod Order
mod Among
mod Distinct
pub mod ReadPairs
pub mod Listed
