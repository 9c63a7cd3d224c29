-- Laws of the lines of a drawing, of what is found in a table that was read, of the answer, and the
-- promises.
pub mod Texts
pub mod Found
pub mod Promises
