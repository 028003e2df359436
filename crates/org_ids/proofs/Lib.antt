pub mod CountLemmas
pub mod PlainLemmas
pub mod NameLemmas
pub mod MarkLemmas
pub mod LawLemmas
pub mod WayLemmas
pub mod PushLemmas
pub mod WordLemmas
