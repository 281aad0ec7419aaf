pub mod Serving
pub mod Calls
pub mod Intaking
pub mod Coming
pub mod UnderWay
pub mod Causes
pub mod Served
