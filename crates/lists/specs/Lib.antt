-- What a reader must believe is the first three definitions of Laws and the first two of Keep.
pub mod Laws
pub mod Keep
pub mod Fronts
pub mod Places
pub mod Rows
