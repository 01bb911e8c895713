pub mod Layouts
pub mod Tagged
pub mod Split
pub mod TaggedLaws
