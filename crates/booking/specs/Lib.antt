-- What a reader must believe is Model and Best; the other files show what follows.
pub mod Model
pub mod Search
pub mod Best
pub mod Rank
pub mod Packed
pub mod Inserting
pub mod NoneEarlier
pub mod Only
pub mod Booked
pub mod Steps
pub mod Reranked
pub mod Filling
