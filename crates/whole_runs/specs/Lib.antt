pub mod Calls
pub mod Hands
pub mod Lists
