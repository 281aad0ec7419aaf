pub mod Reading
pub mod Logs
pub mod Found
pub mod Fits
pub mod Judged
pub mod Chunks
pub mod Causes
pub mod Undamaged
