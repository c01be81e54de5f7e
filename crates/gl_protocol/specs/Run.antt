-- A whole run: its words, what it reads, writes and spends.
pub mod Words
pub mod Call
pub mod Causes
pub mod Plans
pub mod Records
pub mod Out
pub mod Known
pub mod Touched
pub mod Spends
