-- What the program prints, then how the code makes it part by part. Assumes nothing.
pub mod Printed
pub mod Parts
