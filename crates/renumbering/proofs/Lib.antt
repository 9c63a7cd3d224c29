-- Laws of renumbering and of the way back, and the promises. Assumes nothing.
pub mod InverseLaws
pub mod Answers
pub mod Tables
pub mod Promises
pub mod AloneLaws
