pub mod Filled
pub mod Grown
pub mod Laws
pub mod Lengths
pub mod Read
pub mod Whole
