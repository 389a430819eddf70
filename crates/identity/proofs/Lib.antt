-- Laws of identity signals that the crates above cite.
--     TableLaws      a number's letter, and a letter's number
--     SumLaws        a check-sum's number; it is a letter
--     OutsideLaws    the first word outside table 3a, of one identity and of two
--     StrengthLaws   what the check-sums tell of a wrong identity, and what they do not
--     Examples       001's examples
--     Refuted        wrong check-sums
pub mod TableLaws
pub mod SumLaws
pub mod OutsideLaws
pub mod StrengthLaws
pub mod Examples
pub mod Refuted
