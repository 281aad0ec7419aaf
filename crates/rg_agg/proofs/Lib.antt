pub mod Admitted
pub mod Fields
pub mod Laws
pub mod Sums
pub mod Ends
pub mod Queues
pub mod Firsts
pub mod Served
