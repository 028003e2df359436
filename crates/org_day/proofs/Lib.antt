pub mod ShownLemmas
pub mod PlacedLemmas
pub mod WidthLemmas
pub mod DraftLemmas
pub mod LineLemmas
