-- Laws of the parts of a delivered listing, then of the whole, and the values of specs/Promises.
-- Assumes nothing.
pub mod FixedBytes
pub mod ColumnLaws
pub mod WordLaws
pub mod PairLaws
pub mod RowLaws
pub mod ListingLaws
pub mod Apart
pub mod Printing
pub mod Promises
