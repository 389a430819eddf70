-- Laws that the encoder's proofs share.
--     WriteLaws   a text turned, from one character to the next
mod WriteLaws
