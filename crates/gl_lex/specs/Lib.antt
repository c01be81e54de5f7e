pub mod View
pub mod Front
pub mod Quote
pub mod Laws
