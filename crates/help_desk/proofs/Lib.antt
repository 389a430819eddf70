-- Laws that the proofs of this crate share.
--     RefusalLaws   the question is refused as the step is, and else answered
mod RefusalLaws
