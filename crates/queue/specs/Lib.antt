-- What a reader must believe is Model; the other files show what follows from it.
pub mod Model
pub mod Numbers
pub mod Steps
pub mod RowSteps
