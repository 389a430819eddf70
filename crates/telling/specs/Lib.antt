-- What an entry tells (02, T-07).
--     Telling   what is wrong with it, by its parts; what it says; what a burst leaves of the offers
pub mod Telling
