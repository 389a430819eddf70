-- 01, Text, and 02, T-01; and the numbers that encoding and printing return.
--     Written    what both calls answer: bytes written and the case they end in
--     Encoding   characters to signals
--     Bytes      the bytes that have a signal, one by one
--     Printing   signals to characters
--     Shifts     where a shift may stand in an encoded text
pub mod Written
pub mod Encoding
pub mod Bytes
pub mod Printing
pub mod Shifts
