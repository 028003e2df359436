pub mod LogLemmas
pub mod StateLemmas
