-- Mode B, from the sender's slots to what is printed (01, Mode B).
--     WordLaws          the words of a broadcast as a receiver tells them apart
--     HearLaws          a fresh receiver is never refused; to listen late is to lose what came before
--     StepLaws          a DX slot and the RX slot behind it, the end of the wait, and what a position is settled to
--     QuietLaws         behind the end nothing is printed
--     SearchLaws        four phasing signals kept before the text bring the receiver into phase
--     ReadingLaws       no wrong signal, under any damage that is never one of the 35
--     CopyLaws          the perfect copy
--     Needs             each clause of its premise is needed; and it takes more than that of paper 01 itself
--     ReadingExamples   what a reader sees at a lost phasing, a break and a damaged end
pub mod WordLaws
pub mod HearLaws
pub mod StepLaws
pub mod QuietLaws
pub mod SearchLaws
pub mod ReadingLaws
pub mod CopyLaws
pub mod Needs
pub mod ReadingExamples
