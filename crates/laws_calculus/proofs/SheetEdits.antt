-- Lemmas of edits of a sheet.
pub mod SheetOrders
pub mod SheetChanges
pub mod SameSheets
pub mod TakenBack
pub mod Registers
pub mod Own
pub mod Distinct
