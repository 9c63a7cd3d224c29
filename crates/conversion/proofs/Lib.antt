-- Laws of looking for what the old form cannot show and of changing the form, and the promises.
pub mod Rows
pub mod Laws
pub mod Seen
pub mod UnshownLaws
pub mod Promises
