-- Texts, and what they spell.
pub mod Text
pub mod Plain
pub mod Canonical
