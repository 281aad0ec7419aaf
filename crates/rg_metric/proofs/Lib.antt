pub mod ColumnValues
pub mod Laws
pub mod Worked
pub mod Same
