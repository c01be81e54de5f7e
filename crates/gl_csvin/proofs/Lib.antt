pub mod Reached
pub mod Texts
pub mod Placing
