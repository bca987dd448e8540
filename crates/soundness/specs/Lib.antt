-- What a reader must believe is Model; Sound shows that the test there says what the paper asks, and Steps is what the functions promise each other.
pub mod Model
pub mod Sweep
pub mod Sound
pub mod Steps
