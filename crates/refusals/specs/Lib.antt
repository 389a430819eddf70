-- What the functions that judge answer, beside the rules of `mode_a`.
--     Parts     the first bad word of an offer, the first bad signal of a call
--     Judging   what a step refuses, and so does the question for its reason
pub mod Parts
pub mod Judging
