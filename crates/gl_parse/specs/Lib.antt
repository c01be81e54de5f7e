pub mod Outcome
pub mod Faults
pub mod Raws
pub mod Reading
