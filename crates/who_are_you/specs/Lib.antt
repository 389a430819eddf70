-- 02, T-06, and 001, 3.7.13: the question, the answer, and codes that ask nothing.
--     Answers   what the block with D leads to, and the whole answer: which blocks are taken from there on, until when
--     Quiet     the blocks of a passing code ask nothing and complete no over
pub mod Answers
pub mod Quiet
