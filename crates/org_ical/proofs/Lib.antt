pub mod CountLemmas
pub mod ValueLemmas
pub mod ReadingLemmas
pub mod PropertyLemmas
pub mod ComponentLemmas
pub mod UidLemmas
pub mod CalendarLemmas
