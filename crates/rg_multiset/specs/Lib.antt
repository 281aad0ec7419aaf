pub mod Pairs
pub mod Reading
pub mod Props
pub mod ValueLaws
