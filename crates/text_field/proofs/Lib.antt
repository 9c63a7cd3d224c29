-- Laws of the definitions of specs/, for this crate and those above it.
pub mod Examples
pub mod ByteLaws
pub mod BufferLaws
pub mod OutcomeLaws
pub mod RefusalLaws
pub mod AnswerLaws
pub mod MeaningLaws
pub mod NumberLaws
pub mod NameLaws
pub mod LineLaws
pub mod OrderLaws
pub mod CellLaws
pub mod Steps
pub mod Spelled
pub mod WritingLaws
