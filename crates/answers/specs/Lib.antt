-- The numbers a call may give back.
pub mod Answer
