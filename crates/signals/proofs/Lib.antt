-- Laws of the code that the crates above cite.
--     CodeLaws     what holds of every byte and of every signal
--     NumberLaws   the index of the first entry that fails a test
--     Unique       no second answer satisfies the promise of meaning, or of intact
--     Refuted      wrong ways to find the meaning of a word
pub mod CodeLaws
pub mod NumberLaws
pub mod Unique
pub mod Refuted
