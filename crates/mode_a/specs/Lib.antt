-- 01, The station, mode A; 02, T-02, calls, T-05, identification, and T-06, answer-back (001, 3.3 to 3.7).
--     Calls     call blocks, of four signals and of seven
--     Identification   identification blocks, and what the slave gathers of them
--     Station   words, numbers, fresh stations, and one at Stand-by
--     Heard     what the rows ask of a burst
--     Over      the case of a direction, and when the over, and who are you, is heard
--     Answerback   the code, which codes pass, and the blocks of an answer
--     Rows      what each place does with what it hears, a row a place
--     Step      what is then sent, printed and taken; the repetition count; the refusals
pub mod Calls
pub mod Identification
pub mod Station
pub mod Heard
pub mod Over
pub mod Answerback
pub mod Rows
pub mod Step
