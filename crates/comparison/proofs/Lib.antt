-- The laws that the proofs of this crate share. Assumes nothing.
pub mod LetterLaws
pub mod EndLaws
pub mod StepLaws
pub mod AgreeLaws
pub mod RowLaws
pub mod TextLaws
pub mod LentLaws
pub mod FewSteps
pub mod Promises
