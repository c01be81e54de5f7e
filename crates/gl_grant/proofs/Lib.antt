pub mod Taken
pub mod Free
pub mod Growing
pub mod InTheWay
pub mod Refused
