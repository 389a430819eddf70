-- Laws of the text path that the crates above cite.
--     WalkLaws       a list that is turned entry by entry with a case carried along, as encoding and printing both do
--     AnswerLaws     the answer and the lent room, at each refusal and at success
--     EncodingLaws   encoding is such a walk; how long it gets
--     PrintingLaws   printing is such a walk
--     RaisedLaws     a number raised: what is no small letter stays, and once is enough
--     CharacterLaws  what holds of every character: printing its signals gives it back, a small letter as its capital
--     ShiftLaws      a shift stands only where it is needed
--     RoundTrip      printing an encoded text gives the text in capitals
--     Raised         which bytes have a signal; a text is answered as the text in capitals is
--     Unique         no second answer satisfies the promise of encode, or of print
--     Refuted        wrong programs of another shape, told from the right one
pub mod WalkLaws
pub mod AnswerLaws
pub mod EncodingLaws
pub mod PrintingLaws
pub mod RaisedLaws
pub mod CharacterLaws
pub mod ShiftLaws
pub mod RoundTrip
pub mod Raised
pub mod Unique
pub mod Refuted
