pub mod Arrays
pub mod Present
pub mod Rows
pub mod Sizes
pub mod Soundness
