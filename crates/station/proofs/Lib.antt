-- Laws that the station's proofs share.
--     PartLaws   what is done is what the row says; the promise of the step at each answer
mod PartLaws
