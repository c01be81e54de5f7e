-- Lemmas of the forecast.
pub mod Alike
pub mod Answering
pub mod Calls
pub mod Evaluating
pub mod Exists
pub mod Finite
pub mod Nodes
pub mod Once
pub mod Oracles
pub mod Orders
pub mod Permits
pub mod Positive
pub mod Reading
pub mod Settling
pub mod Shapes
pub mod Values
