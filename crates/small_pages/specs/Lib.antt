pub mod Splits
pub mod Layers
pub mod Calls
pub mod Sizes
