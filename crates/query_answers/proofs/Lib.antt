pub mod AnswerLemmas
pub mod ChainAnswers
pub mod UniqueAnswer
pub mod TableAnswers
