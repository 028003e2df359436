pub mod Ranges
pub mod GrowLemmas
pub mod StampSizes
pub mod SizeLemmas
pub mod EffortSizes
pub mod TextLemmas
pub mod PieceLemmas
pub mod ChildLemmas
