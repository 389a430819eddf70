-- 01, The station: the repetition count and Ending's four, defined from the steps of a run and not from what the station keeps.
--     Runs     which steps of a run are repetitions, and how often it sent ααα
--     Counts   what the count is, what makes a station Lost, how often ααα is sent, and Stand-by
pub mod Runs
pub mod Counts
