pub mod View
pub mod Forms
pub mod Same
pub mod Exact
pub mod Ints
pub mod DerivedEq
pub mod Equal
