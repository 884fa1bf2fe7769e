pub mod ListsAt
pub mod ListsAtLaws
pub mod Sides
pub mod EntryAt
pub mod EntryAtLaws
