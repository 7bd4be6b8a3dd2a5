-- What a reader hands over: points, and what reading into lent slices means.
pub mod After
pub mod Point
pub mod ReadInto
pub mod Tabulate
