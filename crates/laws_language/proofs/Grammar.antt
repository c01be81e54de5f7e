-- Lemmas of the grammar.
pub mod Back
pub mod Bound
pub mod Ends
pub mod Kept
pub mod Made
pub mod Named
pub mod Once
pub mod Printed
pub mod Readings
pub mod Sizes
