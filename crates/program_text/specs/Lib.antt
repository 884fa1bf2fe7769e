pub mod Listed
pub mod KeyText
pub mod StmtText
pub mod Printable
pub mod RowTexts
pub mod TextLength
