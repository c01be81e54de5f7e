-- Edits of a sheet, those of replicas and their join, and steps that are undone.
pub mod Limits
pub mod Replicas
pub mod Joins
pub mod Sheets
pub mod Steps
