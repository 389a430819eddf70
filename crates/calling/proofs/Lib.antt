-- Laws that the proofs of this crate share.
--     CallLaws   the signals are of table 3a where none is outside
mod CallLaws
