-- Laws that the proofs here share, and `encoding`'s.
--     CharacterLaws   a byte's signals, read off its row, and the place of that row
--     JudgeLaws       a text judged, from one byte to the next
pub mod CharacterLaws
mod JudgeLaws
