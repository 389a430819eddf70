-- Laws that the printer's proofs share.
--     GlyphLaws   the byte of a word, read off the row of its signal, is what the word prints
--     RunLaws     a word, a run in one case up to the shift, one run after the other: each law over the case
pub mod GlyphLaws
mod RunLaws
