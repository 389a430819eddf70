-- Laws of places and of single steps that the theorems over runs cite.
--     PlaceLaws   places told apart by their numbers
--     RowLaws     what each row may do
--     CodeLaws    what is owed of an answer-back is a block, and stays one that the answer has
--     StepLaws    an answer is what the row did; what is so of each thing that a row may do; what a refusal leaves
--     TakenLaws   where a row takes the offer, and what is reported of it
--     OwedLaws    how what is owed of an answer-back moves
--     LetterLaws  a station that calls with three blocks or identifies has letters of table 3a to send
--     WordLaws    bursts that are the same in each word
pub mod PlaceLaws
pub mod RowLaws
pub mod CodeLaws
pub mod StepLaws
pub mod TakenLaws
pub mod OwedLaws
pub mod LetterLaws
pub mod WordLaws
