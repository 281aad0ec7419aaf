pub mod Sides
pub mod Deques
pub mod States
pub mod Extremes
pub mod Ticks
pub mod Changes
