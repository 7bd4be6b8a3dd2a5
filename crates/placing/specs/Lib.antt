-- Placing a point on the belt, and what it promises.
pub mod Accuracy
pub mod Placing
