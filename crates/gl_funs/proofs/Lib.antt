pub mod Characters
pub mod Counts
pub mod Folds
pub mod Remainders
