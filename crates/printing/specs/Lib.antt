-- What the printer's own functions answer, beside the rules of `text`.
--     Glyph   the byte of a word, by the row of its signal
--     Run     words printed in one case, up to a shift to the other; and one run after the other
pub mod Glyph
pub mod Run
