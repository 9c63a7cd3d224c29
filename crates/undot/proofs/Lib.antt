-- Laws of the definitions of specs/, for this crate and those above it.
pub mod Places
pub mod Tables
pub mod Joining
pub mod Putting
pub mod Going
pub mod ScopeLaws
pub mod FileLaws
pub mod ScopesRight
pub mod EdgesRight
pub mod Spelling
pub mod Promises
pub mod Back
