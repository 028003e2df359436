pub mod RangeLemmas
pub mod HereLemmas
pub mod SumLemmas
pub mod PartLemmas
pub mod WholeLemmas
pub mod ChartLemmas
pub mod TaskLemmas
