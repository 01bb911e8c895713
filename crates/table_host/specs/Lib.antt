pub mod Entries
pub mod Meaning
pub mod Making
