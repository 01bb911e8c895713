pub mod Restored
pub mod Kinds
pub mod Outlines
pub mod Writing
pub mod Rows
