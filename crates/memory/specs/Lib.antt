pub mod Refusals
pub mod Rights
pub mod Memory
