-- What the help desk says and what the set does (02, T-08).
--     Ties                    a row and the reason that is given where it is followed: what is the same at every place
--     WordLaws                what may stand in a block is an intact word that is neither α nor RQ
--     ReceivingLaws           the reason at Receiving, by what the burst is
--     TrafficAnswers          Sending, Turning, Opening, Ending, Receiving, Asking and Lost: the answer is the one that the reason has
--     CallAnswers             the same of Stand-by and of calls
--     IdentificationAnswers   the same of Identifying and Answering
--     DoesLaws                what is printed and what is taken, by the reason
--     DoesUnique              a reason, with the station, the burst and the offer, leaves one answer
--     AnswerLaws              the tie, of every station, and of what the two calls answer; accepted exactly; refused alike
--     AskedAgain              why it asked again
--     Refuted                 wrong pairs of a reason and an answer
pub mod Ties
pub mod WordLaws
pub mod ReceivingLaws
pub mod TrafficAnswers
pub mod CallAnswers
pub mod IdentificationAnswers
pub mod DoesLaws
pub mod DoesUnique
pub mod AnswerLaws
pub mod AskedAgain
pub mod Refuted
