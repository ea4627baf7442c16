pub mod AnswerBytes
pub mod SolvedLemmas
pub mod NeedLaws
pub mod KeptLaws
pub mod AnswersLaws
