pub mod Tables
pub mod Members
pub mod Shown
pub mod Judged
