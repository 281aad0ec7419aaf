pub mod Buckets
pub mod Holding
pub mod Laws
