-- Two stations run over a record, entry by entry.
--     Replay   the state between two entries, and what an entry leads to, beside the definition of a passage
pub mod Replay
