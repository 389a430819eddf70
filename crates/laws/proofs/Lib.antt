-- Laws that more than one crate cites, each stated once.
--     Below    a rule of every number below a bound, from one computed test
--     Table    two rules with the same table agree at each of its places
--     Writes   runs of stores into lent room
--     Unique   a promise that leaves one answer
pub mod Below
pub mod Table
pub mod Writes
pub mod Unique
