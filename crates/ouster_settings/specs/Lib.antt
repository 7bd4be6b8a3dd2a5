-- The settings of Ouster sensors.
pub mod Settings
