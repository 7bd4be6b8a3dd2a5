-- How C names the Ouster settings.
use Rattle.std.specs.Prelude.{ℕ}
use Rattle.ouster_settings.specs.declared.settings.OusterSettings.{OusterSettings}

-- The fields of the settings, one by one.
abbrev pub settings_of : ℕ → ℕ → ℕ → OusterSettings
settings_of columns pixels port = record { columns_per_packet = columns; pixels_per_column = pixels; lidar_port = port }
