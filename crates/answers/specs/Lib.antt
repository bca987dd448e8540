-- What a reader must believe is Model.
pub mod Model
pub mod Steps
