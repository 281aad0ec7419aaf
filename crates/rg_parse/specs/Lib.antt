pub mod Views
pub mod Tokens
pub mod Texts
pub mod Parts
pub mod Levels
pub mod States
pub mod Steps
pub mod Outcomes
