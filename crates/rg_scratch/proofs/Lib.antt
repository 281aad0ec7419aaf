pub mod Keys
pub mod Sums
pub mod Counted
pub mod Exact
pub mod Answered
pub mod Ordered
