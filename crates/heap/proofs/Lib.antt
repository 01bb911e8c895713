pub mod Placing
pub mod Fresh
pub mod Resolving
