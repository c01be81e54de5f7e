pub mod View
pub mod Marks
pub mod Walking
pub mod Putting
pub mod Walked
