-- What a reader must believe is Model; the other files show what follows from it.
pub mod Model
pub mod Feeding
pub mod PendingLine
pub mod Orders
pub mod Rows
pub mod AnswerLines
pub mod JobLines
