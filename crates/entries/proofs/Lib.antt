-- Laws that the proofs here share, and `passing`'s.
--     EntryLaws      a text offer without a third word, and a kind that is none of the eight
--     ReadBackLaws   a record is its entries as they are written, and what is left; entries that are written read back
--     WalkLaws       the record from a place on, by the entry that is found there
--     TellLaws       what an entry has the two stations print
--     Unique         no second answer: the promise of `passing::passage` leaves one
--     Refuted        wrong programs of another shape, each told from the right one by a record
pub mod EntryLaws
pub mod ReadBackLaws
pub mod WalkLaws
pub mod TellLaws
pub mod Unique
pub mod Refuted
