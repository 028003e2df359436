pub mod FileLemmas
pub mod OwnerLemmas
pub mod StampLemmas
