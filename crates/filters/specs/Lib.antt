-- What the contracts of `filters` cite.
--     Counts     how many of a room's bytes
--     Standing   how a program's two streams stand
--     Statuses   how a program ends
pub mod Counts
pub mod Standing
pub mod Statuses
