pub mod BuildNumbers
pub mod QuestionNumbers
pub mod VerdictNumbers
pub mod DoneNumbers
