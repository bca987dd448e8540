-- What a reader must believe is Model; the other files show what follows from it.
pub mod Model
pub mod Lists
pub mod Chunks
pub mod Capacity
pub mod Optimal
pub mod Least
pub mod Answers
pub mod Slack
