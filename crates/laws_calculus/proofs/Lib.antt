pub mod Calculus
pub mod Query
pub mod Edits
pub mod Explanation
pub mod Sound
pub mod Forecast
pub mod Ahead
pub mod SheetEdits
