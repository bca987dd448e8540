-- What the functions promise each other and rely on; what a line is answered and what the bytes of a block come to is
-- in the crate lines.
pub mod Promises
pub mod Reachable
pub mod CallSteps
pub mod Blocks
