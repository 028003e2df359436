pub mod CleanLemmas
pub mod StandLemmas
pub mod StringLemmas
pub mod VisibleLemmas
