-- Laws that the proofs of this crate share.
--     JudgedLaws   a code passes where its words do in one pass from figures case
--     WordLaws     the words by index, as the loops go over them; what passes, by the length
mod JudgedLaws
mod WordLaws
