pub mod Rings
pub mod View
pub mod Made
pub mod History
pub mod Sides
