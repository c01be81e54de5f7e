pub mod Rising
pub mod Entering
pub mod Stepping
pub mod Leaving
pub mod Cut
pub mod Closed
pub mod Working
pub mod States
