-- What the proofs of several functions use, and the theorems that tie them to the rules. Assumes
-- nothing.
pub mod ListLaws
pub mod Demand
pub mod Totals
pub mod Marked
pub mod Examples
pub mod Given
pub mod Walked
pub mod Answers
pub mod Unfollowed
pub mod Noted
pub mod Ends
pub mod Chunks
pub mod Seconds
pub mod First
pub mod Buffers
pub mod Asks
pub mod Texts
pub mod Counts
pub mod Heads
