-- Computation by questions: what a program asks, what its keys come to, and notes of it.
pub mod Lists
pub mod Query
pub mod Evaluation
pub mod Reads
pub mod Demanded
pub mod Notes
