-- Laws of mode A that the crates above cite.
--     HeardLaws   what may stand in a block, by the signal's number; what a first word says
--     CallLaws    the first signal outside table 3a; the promises of stations at Stand-by
--     Unique      no second answer satisfies the promise of step, of the fresh stations, of a station at Stand-by, or of the first burst
--     Refuted     wrong stations of another shape, told from the right one; wrong fresh stations and first bursts
pub mod HeardLaws
pub mod CallLaws
pub mod Unique
pub mod Refuted
