-- Laws of the list and of its text, and the promises. Assumes nothing.
pub mod Growing
pub mod Meeting
pub mod InTurn
pub mod CellLaws
pub mod ListedLaws
pub mod WritingLaws
pub mod ReadingLaws
pub mod RowLaws
pub mod Walking
pub mod ReadingTurns
pub mod Tables
pub mod Breadth
pub mod OnlyOne
pub mod Taken
pub mod Examples
pub mod Promises
