-- Laws that the proofs here share, and `printing`'s.
--     SizeLaws   how many bytes a word and a list print, in either case
pub mod SizeLaws
