-- What the proofs of several functions use, and the theorems of this crate. Assumes nothing.
pub mod HopLaws
pub mod MarkLaws
pub mod WalkLaws
pub mod CutLaws
pub mod Deepest
pub mod Tied
pub mod Calls
pub mod Right
pub mod LentLaws
pub mod FewSteps
pub mod Marked
pub mod Listed
