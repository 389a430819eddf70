-- The over of 01, The station, mode A, and who are you of 02, T-06.
--     ListLaws       two splittings of one list; the case after two lists
--     SignalLaws     what is kept of a list of words, and how the list ends
--     StepLaws       what a step does to the case and the + that are kept, and what a block makes owed
--     OverLaws       the over, and who are you, is heard exactly where the list splits
--     OverExamples   what is easily got wrong, in single runs
pub mod ListLaws
pub mod SignalLaws
pub mod StepLaws
pub mod OverLaws
pub mod OverExamples
