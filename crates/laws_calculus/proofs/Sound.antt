-- Lemmas of sound values.
pub mod Arrays
pub mod Evaluation
pub mod Functions
pub mod Lift
pub mod Needed
pub mod Operators
pub mod Proved
pub mod References
pub mod Rows
pub mod Sheets
pub mod Values
pub mod WellFormed
