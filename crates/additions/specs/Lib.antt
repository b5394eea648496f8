pub mod Storing
pub mod InTurn
pub mod Carved
pub mod Entries
pub mod Walking
pub mod Sources
