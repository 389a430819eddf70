-- Laws of the format of numbers.
--     DigitLaws        what the tests of a byte say
--     JudgedLaws       a run judged byte by byte from the left
--     DecimalLaws      the digits of a number
--     ReadingLaws      a whole run of the reader gives what the input lists
--     PutLaws          bytes put into lent room, one run behind the other
--     WritingLaws      words put one by one make what is written
--     LineLaws         what is written, line by line
--     RoundTrip        what is written reads back
--     FormatExamples   what small inputs list, and how few words are written
pub mod DigitLaws
pub mod JudgedLaws
pub mod DecimalLaws
pub mod ReadingLaws
pub mod PutLaws
pub mod WritingLaws
pub mod LineLaws
pub mod RoundTrip
pub mod FormatExamples
