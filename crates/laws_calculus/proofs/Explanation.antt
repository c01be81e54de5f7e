-- Lemmas of certificates and the walk.
pub mod Apart
pub mod Checking
pub mod Claims
pub mod Existing
pub mod Explaining
pub mod Few
pub mod Going
pub mod Judging
pub mod Numbering
pub mod Once
pub mod Spending
pub mod Steps
pub mod Walks
