-- Formulas as trees, and sheets.
pub mod Formula
pub mod Fit
