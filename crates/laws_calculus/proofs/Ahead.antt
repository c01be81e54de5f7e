-- Lemmas of what is ahead.
pub mod Formulas
pub mod Keeping
pub mod Onward
pub mod Ranges
pub mod Spending
