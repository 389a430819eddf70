-- What the proofs of this crate share, and the laws of an error mark's reason.
--     StarLaws   a reason exactly where the step prints the error mark; refused exactly where the step is
mod StarLaws
