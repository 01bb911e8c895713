pub mod Lent
pub mod Saving
pub mod Marking
