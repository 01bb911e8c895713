pub mod Far
pub mod Turns
