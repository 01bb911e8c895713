pub mod Frames
pub mod Seen
pub mod Translation
