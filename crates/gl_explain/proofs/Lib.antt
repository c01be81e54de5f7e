pub mod Tops
pub mod Turns
pub mod Endings
pub mod Marks
