pub mod Leaving
pub mod Histories
pub mod Phases
pub mod AsBox
