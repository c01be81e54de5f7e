-- Lemmas of edits and their join.
pub mod Joins
pub mod Orders
pub mod Sound
pub mod Taking
