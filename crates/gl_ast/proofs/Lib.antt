pub mod Escapes
pub mod Printing
