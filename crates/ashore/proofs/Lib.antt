-- Two stations run over a record of damage, ashore.
--     RoleLaws    a station without an identity keeps its role
--     ReachLaws   every burst is a step; demand 3; bursts alternate
--     Theorem     demand 3 of what `passing::passage` answers
--     RoomLaws    how much a record prints
--     OfferLaws   which offers are taken
--     PrintLaws   what is printed of them
--     Runs        single records: it says something
--     Refuted     readings and claims that are not so
pub mod RoleLaws
pub mod ReachLaws
pub mod Theorem
pub mod RoomLaws
pub mod OfferLaws
pub mod PrintLaws
pub mod Runs
pub mod Refuted
