pub mod Texts
pub mod Places
pub mod Asked
pub mod Answers
pub mod Examples
pub mod Promises
