-- What an evaluation will need next, whatever the values are.
pub mod Ahead
pub mod Demands
pub mod Reading
pub mod Keeping
pub mod Spent
