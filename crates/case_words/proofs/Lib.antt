-- The laws of a text's pieces, and of the bytes in them.
mod Cuts
mod Hex
