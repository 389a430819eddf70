-- 01, The code (001, tables 1 and 2), and the numbers returned.
--     Units     a word by its seven units; intact and mutilated
--     Signals   the 35 signals, a line each, in 01's order, with their units
--     Meaning   a word's number; traffic and service signals; control and phasing signals
--     Cases     the other case, and the shift to a case
--     Damage    what happens to a word on its way
--     Rows      the code's table of 35 rows, beside the signals
--     Numbers   01, Numbers returned: an answer, or a refusal's number with the value beside it
pub mod Units
pub mod Signals
pub mod Meaning
pub mod Cases
pub mod Damage
pub mod Rows
pub mod Numbers
