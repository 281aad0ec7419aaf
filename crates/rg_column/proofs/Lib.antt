pub mod Laws
pub mod Packing
pub mod Transposed
pub mod Typed
pub mod Widths
