pub mod Exact
pub mod Arithmetic
pub mod Orders
