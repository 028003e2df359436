pub mod CategoryLemmas
pub mod LawLemmas
pub mod LineageLemmas
pub mod ListLemmas
mod OrderLemmas
pub mod TagLemmas
pub mod TreeLemmas
pub mod HiddenWords
pub mod TagsWords
pub mod ValuesWords
