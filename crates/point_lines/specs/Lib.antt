-- The lister's line of a point.
pub mod PointLine
