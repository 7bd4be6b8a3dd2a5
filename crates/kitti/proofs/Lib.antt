-- What the proofs of both forms share, the records and the table of checks, and that the forms agree.
pub mod Checks
pub mod Forms
pub mod Records
