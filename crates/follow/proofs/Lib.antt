-- Laws of the walk: of a path and a row, of the declarations' rows, of taking one row and many, and
-- of places and hops.
pub mod RowLaws
pub mod EntryLaws
pub mod TakeLaws
pub mod TallyLaws
pub mod StepLaws
pub mod FollowLaws
pub mod WalkLaws
