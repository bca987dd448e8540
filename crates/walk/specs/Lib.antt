-- What a reader must believe is Model, and of View its definitions; the other files show what follows from them.
pub mod Model
pub mod View
pub mod Order
pub mod Returning
pub mod EndOfComputing
pub mod Chain
pub mod OrderSteps
pub mod Chunks
pub mod WalkSteps
pub mod NodeOrder
pub mod Writing
pub mod BestWalk
pub mod Plan
pub mod Walking
pub mod Bared
