-- Two stations run over a record of damage, ashore (02, T-07).
--     Ashore   every burst of a record is a step of the circuit; demand 3 of every record, and of what `passing::passage` answers
--     Offers   which blocks the stations take: the record's offers, in order
pub mod Ashore
pub mod Offers
