pub mod AddedLemmas
pub mod AscendLemmas
pub mod DayLemmas
mod Literals
mod MonthLemmas
mod NamedLemmas
pub mod PartLemmas
pub mod PieceLemmas
mod SpanLemmas
pub mod TextLemmas
mod TypedLemmas
pub mod WeekLawLemmas
pub mod WeekLemmas
