pub mod Rules
pub mod Elements
