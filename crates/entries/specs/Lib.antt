-- A record of a passage (02, T-07).
--     Entries    the kinds and bodies of entries; bytes read as a record, and entries written as bytes
--     ReadBack   how a record splits into entries as they are written, and what is left
--     Passage    what the entries say of two stations: events of their circuit, offers that stand, and faults
--     Passing    what the call `passing::passage` answers, and its promise
pub mod Entries
pub mod ReadBack
pub mod Passage
pub mod Passing
