-- Lemmas of evaluation, oracles and answers.
pub mod Apart
pub mod Fits
pub mod Allowances
pub mod Keeps
pub mod OutcomeTests
pub mod Proper
pub mod Proved
pub mod ReadsOnce
pub mod Settles
pub mod Shows
pub mod Single
pub mod Something
