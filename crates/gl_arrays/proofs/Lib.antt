pub mod Ranges
pub mod Tables
pub mod OneColumn
pub mod Windows
pub mod Below
pub mod Beside
pub mod Listed
pub mod NewRows
