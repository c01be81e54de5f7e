pub mod Graph
pub mod Search
pub mod Searches
