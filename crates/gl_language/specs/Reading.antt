-- Tokens, and the grammar of formulas.
pub mod Token
pub mod Grammar
pub mod Content
