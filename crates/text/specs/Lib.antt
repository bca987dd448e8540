-- What a reader must believe is Model; Writing is how texts stand in memory, one behind the other.
pub mod Model
pub mod Writing
