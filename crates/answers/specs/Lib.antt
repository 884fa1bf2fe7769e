pub mod Flowask
pub mod Cases
pub mod AnswersAt
pub mod RowLaws
pub mod TextLaws
pub mod QuestionWords
pub mod AnswerLaws
