pub mod ClockLemmas
pub mod DrawerLemmas
pub mod EffortLemmas
pub mod NodeLemmas
pub mod PlanningLemmas
pub mod ReadLemmas
mod SpelledLemmas
mod ThereLemmas
pub mod ClockWords
