pub mod StatementWords
pub mod StatementAt
pub mod StatementLaws
