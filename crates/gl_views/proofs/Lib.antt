pub mod Appending
pub mod Lines
pub mod Widths
pub mod InRows
