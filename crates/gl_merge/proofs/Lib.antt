pub mod Alike
pub mod Lists
pub mod Spots
pub mod Registers
pub mod Listed
pub mod Replacing
pub mod Adding
pub mod Clocks
