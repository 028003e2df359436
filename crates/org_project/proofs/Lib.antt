pub mod BelowLemmas
pub mod WaitLemmas
pub mod BetweenLemmas
pub mod FlagLemmas
