-- What several reads consume.
mod Consumed
