mod EventLemmas
mod FinishLemmas
mod RecordLemmas
mod StopLemmas
