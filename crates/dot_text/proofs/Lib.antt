-- Laws of the definitions of specs/, for this crate and those above it.
pub mod Steps
pub mod Answers
pub mod TokenLaws
pub mod ManyLaws
pub mod StatementLaws
pub mod WholeLaws
pub mod GrammarLaws
pub mod Promises
pub mod Examples
