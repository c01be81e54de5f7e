-- Scalars, arrays and sheet values, and what operators and functions make of them.
pub mod ErrKind
pub mod Value
pub mod Same
pub mod Sheet
pub mod Lift
pub mod Operators
pub mod Functions
