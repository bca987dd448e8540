-- The three demands. What a reader must believe besides the planner's definitions is CallLists and the claims that begin Demand2 and Demand3; the
-- other files show what follows from them.
pub mod CallLists
pub mod QuestionEleven
pub mod Offers
pub mod WalkPasses
pub mod OfferPasses
pub mod BegunJobs
pub mod HeldTicks
pub mod MoveAnswers
pub mod MovePasses
pub mod WithdrawPasses
pub mod Starts
pub mod Outcome
pub mod Invariant
pub mod Quotes
pub mod Lifecycles
pub mod Demand1
pub mod Demand2
pub mod Demand3
pub mod JobHolds
pub mod Kept
pub mod Reached
pub mod Cases
