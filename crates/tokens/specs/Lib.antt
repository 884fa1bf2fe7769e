pub mod ListWords
pub mod Scan
pub mod Numbers
pub mod Names
pub mod Tiers
pub mod Kinds
pub mod Arguments
