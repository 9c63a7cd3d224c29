-- Laws of where rows stand and of what they say, the promises, worked examples.
pub mod Tests
pub mod Leading
pub mod Parts
pub mod RowLaws
pub mod Laws
pub mod Promises
pub mod Examples
