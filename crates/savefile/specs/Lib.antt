-- What the headers of a savefile mean.
pub mod Headers
pub mod Savefile
