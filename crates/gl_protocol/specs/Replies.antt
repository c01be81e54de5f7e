-- What is written.
pub mod Tables
pub mod Explanations
