pub mod Crossings
pub mod Roots
pub mod Runs
pub mod Starting
