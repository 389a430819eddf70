-- A call of three blocks between two stations, and identification.
--     BlockLaws    the blocks of a call and of identification, and what is heard of them
--     Phases       the call, phase by phase
--     CalleeLaws   the station that is called hears: it stays in the call
--     CallerLaws   the caller hears: it goes on, stops, or the call is completed
--     LeftLaws     the call is over
--     Theorem      what it leaves, who is then known, and what is printed meanwhile
--     Runs         single runs: it says something
--     Refuted      claims that are not so
pub mod BlockLaws
pub mod Phases
pub mod CalleeLaws
pub mod CallerLaws
pub mod LeftLaws
pub mod Theorem
pub mod Runs
pub mod Refuted
