-- How C asks for a rank, and is told the stored reading.
pub mod StoredNumbers
