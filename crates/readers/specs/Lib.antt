pub mod Readers
pub mod Given
pub mod Promises
