pub mod Accepts
pub mod Chars
mod Decimals
pub mod Digits
pub mod Drafting
pub mod Drafts
pub mod Fronts
pub mod Live
pub mod Marks
pub mod Moved
mod Named
pub mod Run
pub mod GrammarWords
