-- Commands, and what they make of the state of a script.
pub mod Commands
pub mod Script
pub mod Acts
pub mod Output
