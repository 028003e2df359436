pub mod AmendingLemmas
