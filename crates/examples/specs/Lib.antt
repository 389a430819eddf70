-- 01, Worked examples, those marked P: a list for each part, and one list of them all.
--     Code       the code
--     Text       the text path
--     ModeA      one station of mode A
--     ModeB      the sender of mode B
--     Sums       check-sums, of 001's example and its figure 3
--     Examples   all of them
pub mod Code
pub mod Text
pub mod ModeA
pub mod ModeB
pub mod Sums
pub mod Examples
