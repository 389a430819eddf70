-- Laws that the proofs of this crate share.
--     BlockLaws   the blocks of an answer, by number: how many there are, and the one at an index
mod BlockLaws
