pub mod Edit
pub mod Judging
pub mod Index
pub mod Spot
pub mod Keeping
pub mod Replica
