pub mod Fronts
pub mod Pages
pub mod Words
pub mod Accepted
