mod Walks
mod Everywhere
mod Tables
mod Writes
pub mod Outlining
