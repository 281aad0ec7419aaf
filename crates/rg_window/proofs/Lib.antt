pub mod Chains
pub mod Laws
pub mod Passes
pub mod Runs
pub mod Spelled
