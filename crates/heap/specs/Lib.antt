pub mod View
pub mod Effects
pub mod Making
pub mod Moves
