pub mod CharacterLemmas
pub mod ReaderLemmas
pub mod WrittenLemmas
pub mod DraftLemmas
pub mod SumLemmas
pub mod LinkLemmas
pub mod PlaceLemmas
