pub mod AgainLemmas
pub mod BeforeLemmas
pub mod SettledLemmas
