-- What the functions of this crate answer, beside the rules of `mode_a`.
--     Judged   a code's words judged in one pass, from a case
pub mod Judged
