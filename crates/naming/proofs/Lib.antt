-- Laws that the proofs of this crate share, and those that the crates above cite.
--     FirstLaws   what a first word is, in the order in which the code asks
--     JudgeLaws   the earliest bad word, and the earliest RQ, of the words read
--     DueLaws     an identification block, by what it is to the stage
--     NumberLaws  `==` of two numbers
--     PlaceLaws   the reason for a station's answer is that of its place
pub mod FirstLaws
mod JudgeLaws
mod DueLaws
mod NumberLaws
pub mod PlaceLaws
