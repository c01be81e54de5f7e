pub mod View
pub mod Made
pub mod Laws
pub mod Ints
pub mod Forms
pub mod Parts
pub mod Sound
