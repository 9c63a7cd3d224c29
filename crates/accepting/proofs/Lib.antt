-- Laws of the tests of a listing, of the verdict, and the values of specs/Promises. Assumes nothing.
pub mod RowTests
pub mod RepeatLaws
pub mod ClassLaws
pub mod CountLaws
pub mod OpenLaws
pub mod Weights
pub mod Rules
pub mod ListTests
pub mod VerdictLaws
pub mod Firsts
pub mod Own
pub mod Promises
