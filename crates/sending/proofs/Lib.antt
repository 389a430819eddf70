-- Laws that the sender's proofs share.
--     BreakLaws   the traffic positions with their breaks, by number
--     SlotLaws    a slot of the list, by number
--     TestLaws    the index of the first word that fails a test
mod BreakLaws
mod SlotLaws
mod TestLaws
