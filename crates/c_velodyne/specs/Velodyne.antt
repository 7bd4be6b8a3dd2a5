-- How C numbers the models.
use Rattle.std.specs.Prelude.{ℕ}
use Rattle.velodyne_angles.specs.declared.model.VelodyneModel.{VelodyneModel}
use Rattle.velodyne_angles.specs.declared.model.VelodyneModel.TheVariants.{VLP16, HDL32E, VLP32C, Unknown}

-- In the order of lidar.rs, from 0.
abbrev pub model_number : VelodyneModel → ℕ
model_number VLP16 = 0
model_number HDL32E = 1
model_number VLP32C = 2
model_number Unknown = 3
