pub mod Faults
pub mod Payments
pub mod Verdicts
pub mod Finding
pub mod Fitting
pub mod Verify
pub mod Causes
