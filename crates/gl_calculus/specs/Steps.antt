-- How many steps a calculation and an explanation take.
pub mod Counted
pub mod Allowance
pub mod Costs
pub mod Rounds
pub mod Walk
pub mod Rule
