pub mod FaultLemmas
pub mod TableLemmas
pub mod EntryLemmas
pub mod InjectiveLemmas
pub mod KindLemmas
pub mod PowerWordLaws
pub mod TokenLaws
