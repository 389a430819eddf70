-- Laws of printed signals put block by block.
--     TypingLaws   nothing, one signal, and some signals behind others
mod TypingLaws
