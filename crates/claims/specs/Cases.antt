-- All worked cases, as one list.
use Rattle.std.specs.Prelude.{List, ◌++◌}
use Rattle.claims.specs.Row.{Row}
use Rattle.claims.specs.Capture.{capture_rows}
use Rattle.claims.specs.Kitti.{kitti_rows}
use Rattle.claims.specs.Livox.{livox_rows}
use Rattle.claims.specs.Padding.{padding_rows}
use Rattle.claims.specs.Placing.{placing_rows}
use Rattle.claims.specs.Time.{time_rows}
use Rattle.claims.specs.Velodyne.{velodyne_rows}

unfoldable pub rows : List Row
unfolding capture_rows kitti_rows livox_rows padding_rows placing_rows time_rows velodyne_rows
rows = capture_rows ++ time_rows ++ padding_rows ++ kitti_rows ++ velodyne_rows ++ livox_rows ++ placing_rows
