pub mod Table
pub mod Lowest
pub mod Made
pub mod Blank
