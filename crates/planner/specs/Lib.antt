-- What a reader must believe is Model, Passes, Calls, Clock and Call; the others are what the functions need and
-- promise each other.
pub mod Model
pub mod Passes
pub mod Changes
pub mod PassesSteps
pub mod Calls
pub mod Parts
pub mod PlaceSteps
pub mod CallsSteps
pub mod OfferSteps
pub mod WithdrawSteps
pub mod Clock
pub mod ClockSteps
pub mod Call
pub mod CallLaws
