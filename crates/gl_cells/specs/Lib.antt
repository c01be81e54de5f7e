pub mod Content
pub mod Sheet
pub mod Listed
pub mod Search
pub mod Equal
pub mod Plain
