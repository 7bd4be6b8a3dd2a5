-- How C names the Ouster settings.
pub mod Settings
