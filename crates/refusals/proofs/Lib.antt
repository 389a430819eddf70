-- Laws that the proofs of this crate share.
--     JudgeLaws    a call of four signals, judged with letters behind it
--     JudgedLaws   what is refused, by what the parts judge; and an answer that is given where nothing is refused
mod JudgeLaws
pub mod JudgedLaws
