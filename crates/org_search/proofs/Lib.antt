pub mod FoldLemmas
pub mod LineLemmas
pub mod TypedLemmas
