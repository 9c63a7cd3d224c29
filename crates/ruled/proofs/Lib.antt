-- Laws of the rows put into a table, of where its sections stand, of its letters, and the promises.
pub mod PutLaws
pub mod Places
pub mod LetterLaws
pub mod RowLaws
pub mod FillLaws
pub mod RowsFormed
pub mod Refusing
pub mod Automaton
pub mod Cells
pub mod Promises
