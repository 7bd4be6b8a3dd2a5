-- The law that what was read had room.
mod Room
