-- What a reader must believe is Model; the other files show what follows from it.
pub mod Model
pub mod BeginSteps
pub mod DueSteps
pub mod HeldSteps
pub mod LinesSteps
pub mod BegunSteps
pub mod ByStart
