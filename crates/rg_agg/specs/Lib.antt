pub mod Held
pub mod Stands
pub mod Numbers
pub mod Standing
pub mod Unbeaten
pub mod Sharing
