pub mod Granted
pub mod Obstacle
pub mod Laws
