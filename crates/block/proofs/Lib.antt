-- Laws of sets and of what is read of the block, here and for those who read one.
pub mod SetLaws
pub mod BlockLaws
pub mod EdgeLaws
