-- K13's list of scopes, in reading order: which list it is, its text and the reading of such a
-- text, what is promised of both, and how the code holds and grows a list. Assumes nothing.
pub mod Order
pub mod WasText
pub mod Promises
pub mod Cells
