pub mod Image
pub mod Names
pub mod Path
pub mod Promise
