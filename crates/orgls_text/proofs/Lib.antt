pub mod CursorLemmas
pub mod OffsetLemmas
pub mod ReachedLemmas
pub mod LawLemmas
pub mod ChangeLemmas
pub mod DocumentLemmas
