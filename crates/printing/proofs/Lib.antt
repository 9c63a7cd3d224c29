-- Laws of the program's output. Assumes nothing.
pub mod Laws
