-- Who are you, of one station (02, T-06).
--     OwingLaws    one step: the block with D, and what a station that owes an answer does
--     AnswerLaws   the question turns; the whole answer, in order, unless CS3 cuts it; offers wait
--     QuietLaws    a passing code asks nothing, and no answer is answered
--     Examples     worked answers, block by block; the premises of the theorems are met
--     Refuted      wrong answers, and rules that are none
pub mod OwingLaws
pub mod AnswerLaws
pub mod QuietLaws
pub mod Examples
pub mod Refuted
