pub mod Places
pub mod Histories
