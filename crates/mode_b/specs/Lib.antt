-- 01, Mode B (001, 4.2 to 4.6), collective.
--     Sender     positions in the order sent, the word of every slot, and the sender's call
--     Receiver   search, lock, settling, printing and the end
pub mod Sender
pub mod Receiver
