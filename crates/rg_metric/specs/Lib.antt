pub mod Conditions
pub mod TestCodes
pub mod Queries
pub mod Same
pub mod Answers
pub mod Replies
pub mod Admitted
