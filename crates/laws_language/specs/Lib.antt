pub mod Formulas
pub mod WellFormed
