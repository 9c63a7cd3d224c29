-- A gym file with the path rules of an expression, in reading order: what it is, what is promised
-- of it, and how the code finds the letters. Assumes nothing.
pub mod Ruled
pub mod Promises
pub mod Letters
