pub mod Statuses
pub mod Ready
pub mod History
pub mod Owned
pub mod Sessions
