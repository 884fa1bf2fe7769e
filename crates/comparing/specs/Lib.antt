pub mod Judging
pub mod JudgeStates
pub mod Comparing
pub mod ComparingLaws
pub mod ComparingStates
pub mod GraphChecked
pub mod Feeding
