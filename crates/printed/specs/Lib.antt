-- What a reader must believe is Model and the definitions that begin DayCalls and DayDemand3. Day shows that the blocks in which an input comes print the same,
-- QuoteLines that `quote` lines change no other answer, DayCalls that the lines of a day are calls, DayDemand3 that demand 3 holds of what is printed.
pub mod Model
pub mod Day
pub mod QuoteLines
pub mod DayCalls
pub mod DayDemand3
pub mod ListingText
