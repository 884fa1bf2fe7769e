pub mod Columns
pub mod EntryRows
pub mod Stores
pub mod Readable
pub mod Words
pub mod Told
pub mod OneMore
