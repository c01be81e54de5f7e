-- Certificates, and the walk that finds one.
pub mod Walk
pub mod Certificate
